use Rattle.std.proofs.Common.{refl}
use Rattle.vm_field.specs.Limbs.{list_of}
use Rattle.chip_branch.proofs.conditions.OrderConditionCondition.fill.Goals as goal

pub returns : goal.returns
unfolding list_of
returns c = rw (c.fill_less.ensures, c.array.ensures, c.array-2.ensures) refl
