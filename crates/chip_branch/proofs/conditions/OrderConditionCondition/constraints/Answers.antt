use Rattle.std.proofs.Common.{refl}
use Rattle.gadget_limbs.specs.Less.{less_constraints, marks_sum, equal_above, marked_differs, differences}
use Rattle.chip_branch.proofs.conditions.OrderConditionCondition.constraints.Goals as goal

pub returns-clause-number : goal.returns-clause-number
unfolding less_constraints marks_sum equal_above marked_differs differences
returns-clause-number c o flags own = refl
