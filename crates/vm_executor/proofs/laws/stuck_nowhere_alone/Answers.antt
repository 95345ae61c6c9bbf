use Rattle.vm_transpile.proofs.Refinement.{goes_forth}
use Rattle.vm_executor.specs.Machine.{vm_state}
use Rattle.vm_executor.proofs.laws.stuck_nowhere_alone.Goals as goal

pub returns : goal.returns
returns c = λ bytes loaded image m next s t is same step text stuck. let forth = goes_forth bytes loaded image m next (vm_state s) is same step text in stuck.no_step forth.0 forth.1
