use Rattle.vm_field.proofs.Constraints.{zero_product}
use Rattle.vm_field.proofs.laws.no_zero_divisors.Goals as goal

pub returns : goal.returns
returns c = zero_product
