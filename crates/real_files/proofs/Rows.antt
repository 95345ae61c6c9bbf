-- The rows of the sums hold, and what they say. Here alone the sheet of sums is unfolded.
use Rattle.std.proofs.Common.{◌≡◌, ℕ, ◌*◌, List, [], ◌∷◌, ◌++◌, refl}
use Rattle.air_core.specs.declared.bus.TheConstants.{EXECUTION, PROGRAM, MEMORY, XOR, RANGE}
use Rattle.air_core.specs.declared.event.Event.{Event}
use Rattle.air_core.specs.First.{bit, gated_difference}
use Rattle.air_core.specs.Flags.{flag_constraints}
use Rattle.air_core.specs.ListLemmas.{zero_test, by_zero_test}
use Rattle.air_core.specs.Path.{path_lines}
use Rattle.air_core.specs.Sheet.{RowHolds, row_events, sent, received}
use Rattle.vm_field.specs.Limbs.{list_of}
use Rattle.gadget_limbs.specs.Lookup.{choose, mixed, looked_up}
use Rattle.gadget_limbs.specs.Sum.{sum_constraints, carry_out, gated_bit}
use Rattle.gadget_time.specs.Told.{time_constraint, touch_constraint, touch_lines}
use Rattle.gadget_time.specs.Form.{columns_by, form_constraints}
use Rattle.adapter_regs.specs.Regs.{regs_of, immediate_constraints, first_touch, second_touch, third_touch, regs_numbers}
use Rattle.chip_alu.specs.Alu.{alu_sheet}
use Rattle.real_files.specs.TwoSums.{first_row, second_row}

-- an access to a register: its number, the word there with its time, the word that it leaves with its time, and the
-- low and the high part of the time between
abbrev pub access : ℕ → ℕ → ℕ → ℕ → ℕ → ℕ → List Event
access register old before new time low =
    received MEMORY 1 (1 ∷ (4 * register) ∷ old ∷ 0 ∷ 0 ∷ 0 ∷ before ∷ [])
    ∷ sent MEMORY 1 (1 ∷ (4 * register) ∷ new ∷ 0 ∷ 0 ∷ 0 ∷ time ∷ [])
    ∷ sent RANGE 1 (low ∷ 16 ∷ []) ∷ sent RANGE 1 (0 ∷ 8 ∷ []) ∷ []

-- the limbs of a sum are bytes
abbrev pub limbs : ℕ → List Event
limbs sum = sent XOR 1 (sum ∷ sum ∷ 0 ∷ []) ∷ sent XOR 1 (0 ∷ 0 ∷ 0 ∷ []) ∷ sent XOR 1 (0 ∷ 0 ∷ 0 ∷ []) ∷ sent XOR 1 (0 ∷ 0 ∷ 0 ∷ []) ∷ []

abbrev pub first_tuple : List ℕ
first_tuple = 4096 ∷ 1 ∷ 5 ∷ 0 ∷ 0 ∷ 1 ∷ 1 ∷ 7 ∷ 0 ∷ 0 ∷ 0 ∷ 0 ∷ []

abbrev pub first_lines : List Event
first_lines =
    received EXECUTION 1 (4096 ∷ 1 ∷ []) ∷ sent EXECUTION 1 (4100 ∷ 4 ∷ []) ∷ sent PROGRAM 1 first_tuple
    ∷ (access 0 0 0 0 1 0 ++ (access 5 0 0 7 3 2 ++ limbs 7))

abbrev pub second_tuple : List ℕ
second_tuple = 4100 ∷ 1 ∷ 6 ∷ 5 ∷ 5 ∷ 1 ∷ 0 ∷ 0 ∷ 0 ∷ 0 ∷ 0 ∷ 0 ∷ []

abbrev pub second_lines : List Event
second_lines =
    received EXECUTION 1 (4100 ∷ 1 ∷ []) ∷ sent EXECUTION 1 (4104 ∷ 4 ∷ []) ∷ sent PROGRAM 1 second_tuple
    ∷ (access 5 7 0 7 1 0 ++ (access 5 7 1 7 2 0 ++ (access 6 0 0 14 3 2 ++ limbs 14)))

pub first_says : row_events (alu_sheet 8) first_row ≡ first_lines
unfolding columns_by regs_of path_lines touch_lines first_touch second_touch third_touch regs_numbers list_of choose mixed looked_up
first_says = refl

pub second_says : row_events (alu_sheet 8) second_row ≡ second_lines
unfolding columns_by regs_of path_lines touch_lines first_touch second_touch third_touch regs_numbers list_of choose mixed looked_up
second_says = refl

pub first_holds : RowHolds (alu_sheet 8) first_row
unfolding columns_by form_constraints regs_of flag_constraints bit immediate_constraints gated_difference sum_constraints carry_out gated_bit touch_constraint time_constraint first_touch second_touch third_touch list_of zero_test
first_holds = by_zero_test ((alu_sheet 8).constraints first_row) refl

pub second_holds : RowHolds (alu_sheet 8) second_row
unfolding columns_by form_constraints regs_of flag_constraints bit immediate_constraints gated_difference sum_constraints carry_out gated_bit touch_constraint time_constraint first_touch second_touch third_touch list_of zero_test
second_holds = by_zero_test ((alu_sheet 8).constraints second_row) refl
