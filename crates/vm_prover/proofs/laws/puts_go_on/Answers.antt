use Rattle.vm_prover.proofs.PutLemmas.{puts_go_on}
use Rattle.vm_prover.proofs.laws.puts_go_on.Goals as goal

pub returns : goal.returns
returns c = puts_go_on
