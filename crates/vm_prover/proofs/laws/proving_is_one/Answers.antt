use Rattle.vm_prover.proofs.OneWay.{proving_is_one}
use Rattle.vm_prover.proofs.laws.proving_is_one.Goals as goal

pub returns : goal.returns
returns c = proving_is_one
