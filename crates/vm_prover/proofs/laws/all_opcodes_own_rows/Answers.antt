use Rattle.vm_prover.proofs.StepLemmas.{all_opcodes_own_rows}
use Rattle.vm_prover.proofs.laws.all_opcodes_own_rows.Goals as goal

pub returns : goal.returns
returns g c = λ ext. all_opcodes_own_rows _
