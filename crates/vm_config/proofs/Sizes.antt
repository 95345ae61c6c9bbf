-- How many constraints and events a row of each table has.
use Rattle.std.proofs.Common.{◌≡◌, ℕ, List, length, refl}
use Rattle.std.specs.Prelude.{slice_index}
use Rattle.gadget_time.specs.Form.{Form, columns, told_by}
use Rattle.gadget_time.specs.Told.{told_lines}
use Rattle.air_core.specs.Ring.{field}
use Rattle.air_core.specs.First.{bit, gated_difference}
use Rattle.air_core.specs.Flags.{flag_constraints}
use Rattle.air_core.specs.Path.{path_lines}
use Rattle.gadget_time.specs.Form.{columns_by, form_constraints}
use Rattle.vm_field.specs.Limbs.{list_of}
use Rattle.gadget_limbs.specs.Lookup.{choose, mixed, looked_up}
use Rattle.gadget_limbs.specs.Sum.{sum_constraints, gated_bit, carry_out as sum_carry}
use Rattle.gadget_time.specs.Told.{time_constraint, touch_constraint, touch_lines}
use Rattle.adapter_regs.specs.Regs.{regs_of, first_touch, second_touch, third_touch, immediate_constraints, regs_numbers}
use Rattle.gadget_limbs.specs.Less.{marks_sum, equal_above, marked_differs, top_constraint, differences, less_constraints, less_ranges}
use Rattle.gadget_limbs.specs.Sign.{sign_constraints, sign_looked_up, negative_constraints, same_constraints}
use Rattle.gadget_shift.specs.Shift.{shift_columns, amount_constraints, amount_part, shift_lookups, left_limb, right_limb, selected, left_constraints, right_constraints}
use Rattle.chip_shift.specs.Shift.{shift_constraints_of, shift_lookups_of}
use Rattle.adapter_mem.specs.Memory.{memory_numbers}
use Rattle.adapter_mem.specs.Pointer.{pointer_constraints, low_half, high_half, half_out, part, pointer}
use Rattle.adapter_mem.specs.Select.{loaded_limb, stored_limb}
use Rattle.adapter_regs.specs.Next.{next_by}
use Rattle.chip_branch.specs.Branch.{branch_numbers, branch_touches}
use Rattle.chip_branch.specs.Conditions.{apart_by, equal_constraints, either_way}
use Rattle.chip_jump.specs.Link.{number_by, link_difference, link_numbers}
use Rattle.gadget_products.specs.Product.{place, places}
use Rattle.gadget_products.specs.Carry.{carry_out, carries, last_carry}
use Rattle.gadget_products.specs.Multiply.{extended, product_carries}
use Rattle.chip_mul.specs.Mul.{products_of, left_signed, chosen, mul_lookups}
use Rattle.gadget_products.specs.Divide.{added, division_sums, division_carries, division_top}
use Rattle.gadget_divide.specs.Divided.{divided_of, signs_differ, zero_constraints, not_below, operand_constraints, result_constraints, divided_bytes, divided_lookups}
use Rattle.chip_divrem.specs.DivRem.{signed, quotients, remainders, chosen_limb, chosen as chosen_pair, divrem_constraints, divrem_lookups}
use Rattle.gadget_bits.specs.Bits.{halves_at, number_by as number_by_bits, halves_by, xor3_of, choice_of, majority_of, big_sigma_bits, small_sigma_bits, choice_bits, majority_bits}
use Rattle.gadget_bits.specs.Sum.{half_carry, low_carry, high_carry, sum_lines}
use Rattle.chip_sha_main.specs.Main.{main_row, word_field, word_halves, block_halves, run_touches, main_touches, carry_bits, sum_bits, main_ranges, start_words, end_words, chain_lines, main_numbers}
use Rattle.chip_sha_round.specs.Round.{round_row, before_of, after_of, a_words, e_words, w_words, stage_lines, round_lines, round_constraints}
use Rattle.gadget_time.specs.Nop.{nop_form}
use Rattle.adapter_regs.specs.Core.{regs_form}
use Rattle.adapter_mem.specs.Memory.{memory_form}
use Rattle.chip_alu.specs.Alu.{alu_core}
use Rattle.chip_less.specs.Less.{less_core}
use Rattle.chip_shift.specs.Shift.{shift_core}
use Rattle.chip_load.specs.Load.{load_table}
use Rattle.chip_store.specs.Store.{store_table}
use Rattle.chip_branch.specs.Branch.{branch_form}
use Rattle.chip_branch.specs.Conditions.{equal_condition, order_condition}
use Rattle.chip_jump.specs.Cores.{jal_lui_form, auipc_form, jalr_form}
use Rattle.chip_mul.specs.Mul.{mul_core}
use Rattle.chip_divrem.specs.DivRem.{divrem_core}
use Rattle.chip_io.specs.Hint.{hint_table}
use Rattle.chip_io.specs.Reveal.{reveal_table}
use Rattle.chip_sha_main.specs.Sheet.{main_form}

pub record Size : Type 0 where
  pub constraints : ℕ
  pub events : ℕ

abbrev pub size : ℕ → ℕ → Size
size constraints events = record { constraints = constraints; events = events }

pub record Sized (f : Form) (s : Size) : Type 0 where
  pub constraints : (row : List ℕ) → length (form_constraints field f.parts (columns f row)) ≡ s.constraints
  pub events : (hi : ℕ) (row : List ℕ) → length (told_lines field hi (told_by f (columns f row))) ≡ s.events

pub nop_sized : Sized (nop_form) (size 2 3)
unfolding bit flag_constraints path_lines columns_by form_constraints
nop_sized = record { constraints = λ row. refl; events = λ hi row. refl }

pub alu_sized : Sized (regs_form alu_core) (size 21 19)
unfolding bit gated_difference flag_constraints path_lines list_of choose mixed looked_up sum_constraints carry_out gated_bit time_constraint touch_constraint touch_lines columns_by form_constraints regs_of first_touch second_touch third_touch immediate_constraints regs_numbers
alu_sized = record { constraints = λ row. refl; events = λ hi row. refl }

pub less_sized : Sized (regs_form less_core) (size 27 18)
unfolding bit gated_difference flag_constraints path_lines list_of marks_sum equal_above marked_differs top_constraint differences less_constraints less_ranges time_constraint touch_constraint touch_lines columns_by form_constraints regs_of first_touch second_touch third_touch immediate_constraints regs_numbers
less_sized = record { constraints = λ row. refl; events = λ hi row. refl }

pub shift_sized : Sized (regs_form shift_core) (size 59 25)
unfolding bit gated_difference flag_constraints path_lines list_of sign_constraints sign_looked_up shift_columns amount_constraints amount_part shift_lookups left_limb right_limb selected left_constraints right_constraints shift_constraints_of shift_lookups_of time_constraint touch_constraint touch_lines columns_by form_constraints regs_of first_touch second_touch third_touch immediate_constraints regs_numbers
shift_sized = record { constraints = λ row. refl; events = λ hi row. refl }

pub load_sized : Sized (memory_form load_table) (size 21 18)
unfolding flag_constraints path_lines time_constraint touch_constraint touch_lines columns_by form_constraints bit list_of sign_constraints sign_looked_up memory_numbers pointer_constraints low_half high_half half_out part pointer loaded_limb
load_sized = record { constraints = λ row. refl; events = λ hi row. refl }

pub store_sized : Sized (memory_form store_table) (size 13 17)
unfolding flag_constraints path_lines time_constraint touch_constraint touch_lines columns_by form_constraints bit list_of memory_numbers pointer_constraints low_half high_half half_out part pointer stored_limb
store_sized = record { constraints = λ row. refl; events = λ hi row. refl }

pub branch_eq_sized : Sized (branch_form equal_condition) (size 11 11)
unfolding bit gated_difference flag_constraints path_lines list_of time_constraint touch_constraint touch_lines columns_by form_constraints next_by branch_numbers branch_touches apart_by equal_constraints either_way
branch_eq_sized = record { constraints = λ row. refl; events = λ hi row. refl }

pub branch_lt_sized : Sized (branch_form order_condition) (size 24 14)
unfolding bit flag_constraints path_lines list_of marks_sum equal_above marked_differs top_constraint differences less_constraints less_ranges time_constraint touch_constraint touch_lines columns_by form_constraints next_by branch_numbers branch_touches either_way
branch_lt_sized = record { constraints = λ row. refl; events = λ hi row. refl }

pub jal_lui_sized : Sized (jal_lui_form) (size 9 11)
unfolding flag_constraints path_lines time_constraint touch_constraint touch_lines columns_by form_constraints bit gated_difference next_by number_by link_difference link_numbers
jal_lui_sized = record { constraints = λ row. refl; events = λ hi row. refl }

pub auipc_sized : Sized (auipc_form) (size 8 15)
unfolding flag_constraints path_lines time_constraint touch_constraint touch_lines columns_by form_constraints bit list_of sum_constraints carry_out gated_bit number_by link_numbers
auipc_sized = record { constraints = λ row. refl; events = λ hi row. refl }

pub jalr_sized : Sized (jalr_form) (size 8 17)
unfolding flag_constraints path_lines time_constraint touch_constraint touch_lines columns_by form_constraints bit pointer_constraints low_half high_half half_out part pointer number_by link_difference link_numbers
jalr_sized = record { constraints = λ row. refl; events = λ hi row. refl }

pub mul_sized : Sized (regs_form mul_core) (size 12 33)
unfolding bit gated_difference flag_constraints path_lines list_of choose sign_constraints sign_looked_up place places carry_out carries extended product_carries time_constraint touch_constraint touch_lines columns_by form_constraints regs_of first_touch second_touch third_touch immediate_constraints regs_numbers products_of left_signed chosen mul_lookups
mul_sized = record { constraints = λ row. refl; events = λ hi row. refl }

pub divrem_sized : Sized (regs_form divrem_core) (size 68 50)
unfolding bit gated_difference flag_constraints path_lines list_of marks_sum equal_above marked_differs top_constraint differences less_constraints less_ranges sign_constraints sign_looked_up negative_constraints same_constraints sum_constraints sum_carry gated_bit place places carry_out carries last_carry added division_sums division_carries division_top time_constraint touch_constraint touch_lines columns_by form_constraints regs_of first_touch second_touch third_touch immediate_constraints regs_numbers divided_of signs_differ zero_constraints not_below operand_constraints result_constraints divided_bytes divided_lookups signed quotients remainders chosen_limb chosen_pair divrem_constraints divrem_lookups
divrem_sized = record { constraints = λ row. refl; events = λ hi row. refl }

pub hint_sized : Sized (memory_form hint_table) (size 6 17)
unfolding flag_constraints path_lines time_constraint touch_constraint touch_lines columns_by form_constraints bit list_of memory_numbers pointer_constraints low_half high_half half_out part pointer
hint_sized = record { constraints = λ row. refl; events = λ hi row. refl }

pub reveal_sized : Sized (memory_form reveal_table) (size 7 17)
unfolding flag_constraints path_lines time_constraint touch_constraint touch_lines columns_by form_constraints bit list_of memory_numbers pointer_constraints low_half high_half half_out part pointer
reveal_sized = record { constraints = λ row. refl; events = λ hi row. refl }

pub sha_main_sized : Sized (main_form) (size 44 143)
unfolding bit flag_constraints path_lines list_of halves_at half_carry time_constraint touch_constraint touch_lines columns_by form_constraints main_row word_field word_halves block_halves run_touches main_touches carry_bits sum_bits main_ranges start_words end_words chain_lines main_numbers
sha_main_sized = record { constraints = λ row. refl; events = λ hi row. refl }

pub sha_round_constraints : (row : List ℕ) → length (round_constraints field (slice_index row)) ≡ 258
unfolding bit flag_constraints number_by_bits halves_by xor3_of choice_of majority_of big_sigma_bits small_sigma_bits choice_bits majority_bits halves_at half_carry low_carry high_carry sum_lines round_row before_of after_of a_words e_words w_words stage_lines round_lines round_constraints
sha_round_constraints row = refl

pub sha_round_events : (row : List ℕ) → length (round_lines field (round_row (slice_index row))) ≡ 15
unfolding bit flag_constraints number_by_bits halves_by xor3_of choice_of majority_of big_sigma_bits small_sigma_bits choice_bits majority_bits halves_at half_carry low_carry high_carry sum_lines round_row before_of after_of a_words e_words w_words stage_lines round_lines round_constraints
sha_round_events row = refl
