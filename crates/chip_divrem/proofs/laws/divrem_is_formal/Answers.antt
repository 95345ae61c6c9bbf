use Rattle.std.proofs.Common.{refl}
use Rattle.air_core.specs.First.{bit, gated_difference}
use Rattle.air_core.specs.Flags.{flag_constraints}
use Rattle.air_core.specs.Path.{path_lines}
use Rattle.vm_field.specs.Limbs.{list_of}
use Rattle.gadget_limbs.specs.Less.{marks_sum, equal_above, marked_differs, top_constraint, differences, less_constraints, less_ranges}
use Rattle.gadget_limbs.specs.Sign.{sign_constraints, sign_looked_up, negative_constraints, same_constraints}
use Rattle.gadget_limbs.specs.Sum.{sum_constraints, carry_out as sum_carry, gated_bit}
use Rattle.gadget_products.specs.Product.{place, places}
use Rattle.gadget_products.specs.Carry.{carry_out, carries, last_carry}
use Rattle.gadget_products.specs.Divide.{added, division_sums, division_carries, division_top}
use Rattle.gadget_time.specs.Told.{time_constraint, touch_constraint, touch_lines}
use Rattle.gadget_time.specs.Form.{columns_by, form_constraints}
use Rattle.adapter_regs.specs.Regs.{regs_of, first_touch, second_touch, third_touch, immediate_constraints, regs_numbers}
use Rattle.gadget_divide.specs.Divided.{divided_of, signs_differ, zero_constraints, not_below, operand_constraints, result_constraints, divided_bytes, divided_lookups}
use Rattle.chip_divrem.specs.DivRem.{signed, quotients, remainders, chosen_limb, chosen, divrem_constraints, divrem_lookups}
use Rattle.chip_divrem.proofs.laws.divrem_is_formal.Goals as goal

pub returns : goal.returns
unfolding bit gated_difference flag_constraints path_lines list_of marks_sum equal_above marked_differs top_constraint differences less_constraints less_ranges sign_constraints sign_looked_up negative_constraints same_constraints sum_constraints sum_carry gated_bit place places carry_out carries last_carry added division_sums division_carries division_top time_constraint touch_constraint touch_lines columns_by form_constraints regs_of first_touch second_touch third_touch immediate_constraints regs_numbers divided_of signed quotients remainders chosen_limb chosen signs_differ zero_constraints not_below operand_constraints result_constraints divided_bytes divided_lookups divrem_constraints divrem_lookups
returns c = record { constraints = λ row. refl; lines = λ hi row. refl }
