use Rattle.acceptance.proofs.Whole.{accepted_on_blocks}
use Rattle.acceptance.proofs.laws.accepted_files_are_runs_on_blocks.Goals as goal

pub returns : goal.returns
returns g c = λ ext. accepted_on_blocks _ (g.met.E.Extension.fits ext) (g.met.E.Extension.buses ext) (g.met.E.Extension.timed ext) (g.met.E.Extension.sound ext)
