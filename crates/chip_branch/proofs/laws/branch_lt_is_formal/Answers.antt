use Rattle.std.proofs.Common.{refl}
use Rattle.air_core.specs.First.{bit}
use Rattle.air_core.specs.Flags.{flag_constraints}
use Rattle.air_core.specs.Path.{path_lines}
use Rattle.vm_field.specs.Limbs.{list_of}
use Rattle.gadget_limbs.specs.Less.{marks_sum, equal_above, marked_differs, top_constraint, differences, less_constraints, less_ranges}
use Rattle.gadget_time.specs.Told.{time_constraint, touch_constraint, touch_lines}
use Rattle.gadget_time.specs.Form.{columns_by, form_constraints}
use Rattle.adapter_regs.specs.Next.{next_by}
use Rattle.chip_branch.specs.Branch.{branch_numbers, branch_touches}
use Rattle.chip_branch.specs.Conditions.{either_way}
use Rattle.chip_branch.proofs.laws.branch_lt_is_formal.Goals as goal

pub returns : goal.returns
unfolding bit flag_constraints path_lines list_of marks_sum equal_above marked_differs top_constraint differences less_constraints less_ranges time_constraint touch_constraint touch_lines columns_by form_constraints next_by branch_numbers branch_touches either_way
returns c = record { constraints = λ row. refl; lines = λ hi row. refl }
