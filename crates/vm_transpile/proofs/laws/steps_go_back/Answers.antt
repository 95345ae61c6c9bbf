use Rattle.vm_transpile.proofs.Refinement.{goes_back}
use Rattle.vm_transpile.proofs.laws.steps_go_back.Goals as goal

pub returns : goal.returns
returns c = goes_back
