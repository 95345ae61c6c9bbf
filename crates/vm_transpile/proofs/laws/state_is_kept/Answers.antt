use Rattle.vm_transpile.proofs.Refinement.{state_is_kept}
use Rattle.vm_transpile.proofs.laws.state_is_kept.Goals as goal

pub returns : goal.returns
returns c = state_is_kept
