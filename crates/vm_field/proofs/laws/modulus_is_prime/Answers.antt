use Rattle.vm_field.proofs.Prime.{modulus_is_prime}
use Rattle.vm_field.proofs.laws.modulus_is_prime.Goals as goal

pub returns : goal.returns
returns c = modulus_is_prime
