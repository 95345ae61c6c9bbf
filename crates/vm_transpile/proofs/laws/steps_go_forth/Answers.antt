use Rattle.vm_transpile.proofs.Refinement.{goes_forth}
use Rattle.vm_transpile.proofs.laws.steps_go_forth.Goals as goal

pub returns : goal.returns
returns c = goes_forth
