-- Two tables and a private bus. The first steps by x and asks for x on bus 6; the second gives 4 alone.
use Rattle.std.specs.Prelude.{ℕ, false, nat_eq, if◌then◌else◌, List, [], ◌∷◌, ◌++◌, slice_index}
use Rattle.vm_field.specs.Field.{field_add, field_sub, field_mul}
use Rattle.air_core.specs.declared.event.Event.{Event}
use Rattle.air_core.specs.First.{bit}
use Rattle.air_core.specs.Path.{path_lines}
use Rattle.air_core.specs.Sheet.{Sheet, sent, received}
use Rattle.air_core.specs.System.{System}
use Rattle.air_core.specs.Ring.{field}
use Rattle.air_core.specs.declared.bus.TheConstants.{FIRST_PRIVATE}

-- the program row of a no-operation, where the flag is set
unfoldable pub step_numbers : ℕ → ℕ → List ℕ
step_numbers pc flag = pc ∷ field_mul flag 39 ∷ 0 ∷ 0 ∷ 0 ∷ 0 ∷ 0 ∷ 0 ∷ 0 ∷ 0 ∷ 0 ∷ 0 ∷ []

-- the step, and the question
unfoldable pub step_lines : ℕ → ℕ → ℕ → ℕ → List Event
step_lines pc time flag x = path_lines field flag pc time (field_add pc x) 1 (step_numbers pc flag) ++ (sent FIRST_PRIVATE flag (x ∷ []) ∷ [])

-- columns pc, t, flag, x
abbrev pub step_sheet : Sheet
step_sheet = record {
  width = 4;
  slots = 1;
  rows = 1;
  time_bits = 24;
  first_flag = 2;
  flags = 1;
  owns = λ op. nat_eq op 39;
  takes = λ op. nat_eq op 39;
  alone = false;
  constraints = λ row. bit field (slice_index row 2) ∷ [];
  lines = λ row. step_lines (slice_index row 0) (slice_index row 1) (slice_index row 2) (slice_index row 3);
  filled = λ done place. done.instr.pc ∷ done.time ∷ 1 ∷ 4 ∷ [];
}

unfoldable pub answer_constraint : ℕ → ℕ → ℕ
answer_constraint y count = field_mul count (field_sub y 4)

-- columns y and its count
abbrev pub answer_sheet : Sheet
answer_sheet = record {
  width = 2;
  slots = 0;
  rows = 1;
  time_bits = 24;
  first_flag = 1;
  flags = 1;
  owns = λ _. false;
  takes = λ op. nat_eq op 39;
  alone = false;
  constraints = λ row. answer_constraint (slice_index row 0) (slice_index row 1) ∷ [];
  lines = λ row. received FIRST_PRIVATE (slice_index row 1) (slice_index row 0 ∷ []) ∷ [];
  filled = λ done place. 4 ∷ 1 ∷ [];
}

-- a record of a no-operation fills a row of each
abbrev pub pair : System
pair = record {
  parts =
      record { sheet = step_sheet; rows_for = λ done. if nat_eq done.instr.op 39 then 1 else 0 }
      ∷ record { sheet = answer_sheet; rows_for = λ done. if nat_eq done.instr.op 39 then 1 else 0 }
      ∷ [];
  private = λ bus. nat_eq bus 6;
  time_bits = 24;
}
