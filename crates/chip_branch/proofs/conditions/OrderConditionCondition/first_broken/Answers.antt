use Rattle.std.proofs.Common.{refl}
use Rattle.vm_field.specs.Limbs.{list_of}
use Rattle.chip_branch.proofs.conditions.OrderConditionCondition.first_broken.Goals as goal

pub returns : goal.returns
unfolding list_of
returns c = rw (c.less_broken.ensures, c.array.ensures, c.array-2.ensures) refl
