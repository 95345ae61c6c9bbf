use Rattle.air_core.proofs.RecordLemmas.{said_once}
use Rattle.air_core.proofs.laws.a_record_is_said_once.Goals as goal

pub returns : goal.returns
returns g c = λ ext. said_once (g.E.Extension.system ext) (g.met.E.Extension.fits ext) (g.met.E.Extension.buses ext) (g.met.E.Extension.rows ext) (g.met.E.Extension.complete ext)
