use Rattle.std.proofs.Common.{refl}
use Rattle.chip_branch.specs.Conditions.{equal_constraints}
use Rattle.chip_branch.proofs.conditions.EqualConditionCondition.constraints.Goals as goal

pub returns-clause-number : goal.returns-clause-number
unfolding equal_constraints
returns-clause-number c o flags own = refl
