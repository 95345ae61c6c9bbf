use Rattle.std.proofs.Common.{refl}
use Rattle.air_core.specs.First.{bit, gated_difference}
use Rattle.air_core.specs.Flags.{flag_constraints}
use Rattle.air_core.specs.Path.{path_lines}
use Rattle.vm_field.specs.Limbs.{list_of}
use Rattle.gadget_limbs.specs.Sign.{sign_constraints, sign_looked_up}
use Rattle.gadget_shift.specs.Shift.{shift_columns, amount_constraints, amount_part, shift_lookups, left_limb, right_limb, selected, left_constraints, right_constraints}
use Rattle.chip_shift.specs.Shift.{shift_constraints_of, shift_lookups_of}
use Rattle.gadget_time.specs.Told.{time_constraint, touch_constraint, touch_lines}
use Rattle.gadget_time.specs.Form.{columns_by, form_constraints}
use Rattle.adapter_regs.specs.Regs.{regs_of, first_touch, second_touch, third_touch, immediate_constraints, regs_numbers}
use Rattle.chip_shift.proofs.laws.shift_is_formal.Goals as goal

pub returns : goal.returns
unfolding bit gated_difference flag_constraints path_lines list_of sign_constraints sign_looked_up shift_columns amount_constraints amount_part shift_lookups left_limb right_limb selected left_constraints right_constraints shift_constraints_of shift_lookups_of time_constraint touch_constraint touch_lines columns_by form_constraints regs_of first_touch second_touch third_touch immediate_constraints regs_numbers
returns c = record { constraints = λ row. refl; lines = λ hi row. refl }
