use Rattle.acceptance.proofs.Whole.{accepted_are_runs}
use Rattle.acceptance.proofs.laws.accepted_files_are_runs.Goals as goal

pub returns : goal.returns
returns g c = λ ext. accepted_are_runs _ (g.met.E.Extension.fits ext) (g.met.E.Extension.buses ext) (g.met.E.Extension.timed ext) (g.met.E.Extension.sound ext)
