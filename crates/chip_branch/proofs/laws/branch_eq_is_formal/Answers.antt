use Rattle.std.proofs.Common.{refl}
use Rattle.air_core.specs.First.{bit, gated_difference}
use Rattle.air_core.specs.Flags.{flag_constraints}
use Rattle.air_core.specs.Path.{path_lines}
use Rattle.vm_field.specs.Limbs.{list_of}
use Rattle.gadget_time.specs.Told.{time_constraint, touch_constraint, touch_lines}
use Rattle.gadget_time.specs.Form.{columns_by, form_constraints}
use Rattle.adapter_regs.specs.Next.{next_by}
use Rattle.chip_branch.specs.Branch.{branch_numbers, branch_touches}
use Rattle.chip_branch.specs.Conditions.{apart_by, equal_constraints, either_way}
use Rattle.chip_branch.proofs.laws.branch_eq_is_formal.Goals as goal

pub returns : goal.returns
unfolding bit gated_difference flag_constraints path_lines list_of time_constraint touch_constraint touch_lines columns_by form_constraints next_by branch_numbers branch_touches apart_by equal_constraints either_way
returns c = record { constraints = λ row. refl; lines = λ hi row. refl }
