use Rattle.vm_field.proofs.Inverse.{inverse_unique}
use Rattle.vm_field.proofs.laws.inverse_is_one.Goals as goal

pub returns : goal.returns
returns c = inverse_unique
