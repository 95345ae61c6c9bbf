-- An instruction table of any form: what its rows tell, and its sheet. The first columns are pc, the time
-- and the flags; the others are the form's own.
use Rattle.std.specs.Prelude.{◌≡◌, ℕ, ◌+◌, Bool, nat_eq, List, ◌∷◌, ◌++◌, length, map, replicate, slice_index}
use Rattle.std.specs.List.{list_any}
use Rattle.vm_isa.specs.declared.record.StepRecord.{StepRecord}
use Rattle.air_core.specs.declared.event.Event.{Event}
use Rattle.air_core.specs.Formal.{Expression, Interaction, formal, value, event_at}
use Rattle.air_core.specs.Formal.Expression.{column}
use Rattle.air_core.specs.Ring.{Ring, field, cells}
use Rattle.air_core.specs.Sheet.{Sheet}
use Rattle.air_core.specs.Flags.{flag_constraints, sum_from, weighted_from, one_hot}
use Rattle.gadget_time.specs.declared.touch.Touch.{Touch}
use Rattle.gadget_time.specs.Told.{Told, told_lines, touch_constraint}

-- a row by its parts
pub record Columns (A : Type 0) : Type 0 where
  pub pc : A
  pub time : A
  pub flags : List A
  pub rest : List A

-- what a row tells: the next pc, the ten numbers of its program row behind pc and opcode, its accesses and
-- other events; and its constraints beside those of the flags and of the accesses' times
pub record Parts (A E : Type 0) : Type 0 where
  pub next : Columns A → A
  pub numbers : Columns A → List A
  pub touches : Columns A → List (Touch A)
  pub others : Columns A → List E
  pub constraints : Columns A → List A

pub record Form : Type 0 where
  -- by how much the time of a valid row goes on
  pub slots : ℕ
  -- the opcode of each flag; several flags may have one opcode
  pub opcodes : List ℕ
  -- how many columns stand behind the flags
  pub width : ℕ
  -- its rows mean something without those of another table
  pub alone : Bool
  pub parts : Parts ℕ Event
  -- the place of the flag that a record sets, and the columns behind the flags that it fills
  pub place : StepRecord → ℕ
  pub filled : StepRecord → List ℕ

abbrev pub parts_of : {A : Type 0} → A → A → List A → List A → Columns A
parts_of pc time flags rest = record { pc = pc; time = time; flags = flags; rest = rest }

-- the parts of a row, by what stands at a place
unfoldable pub columns_by : {A : Type 0} → ℕ → ℕ → (ℕ → A) → Columns A
columns_by flags width at = parts_of (at 0) (at 1) (cells at 2 flags) (cells at (2 + flags) width)

abbrev pub columns : Form → List ℕ → Columns ℕ
columns f row = columns_by (length f.opcodes) f.width (slice_index row)

-- the sum of the flags, and the opcode of the one that is set
abbrev pub valid_of : {A E : Type 0} → Ring A E → Columns A → A
valid_of o c = sum_from o (o.number 0) c.flags

abbrev pub op_of : {A E : Type 0} → Ring A E → List ℕ → Columns A → A
op_of o opcodes c = weighted_from o (o.number 0) c.flags opcodes

-- all that a row tells
abbrev pub form_told : {A E : Type 0} → Ring A E → ℕ → List ℕ → Parts A E → Columns A → Told A E
form_told o slots opcodes parts c = record {
  valid = valid_of o c;
  pc = c.pc;
  time = c.time;
  next = parts.next c;
  slots = slots;
  numbers = c.pc ∷ op_of o opcodes c ∷ parts.numbers c;
  touches = parts.touches c;
  others = parts.others c;
}

-- the constraints: of the flags, of the form, of the accesses' times
unfoldable pub form_constraints : {A E : Type 0} → Ring A E → Parts A E → Columns A → List A
form_constraints o parts c = flag_constraints o c.flags ++ (parts.constraints c ++ map (touch_constraint o c.time) (parts.touches c))

abbrev pub told_by : Form → Columns ℕ → Told ℕ Event
told_by f c = form_told field f.slots f.opcodes f.parts c

abbrev pub owns_of : Form → ℕ → Bool
owns_of f op = list_any (nat_eq op) f.opcodes

-- the columns of a record
abbrev pub filled_columns : Form → StepRecord → Columns ℕ
filled_columns f done = parts_of done.instr.pc done.time (one_hot (length f.opcodes) (f.place done)) (f.filled done)

-- and the row of columns
abbrev pub row_of_columns : Columns ℕ → List ℕ
row_of_columns c = c.pc ∷ c.time ∷ (c.flags ++ c.rest)

-- columns of zeros
abbrev pub no_columns : Form → Columns ℕ
no_columns f = parts_of 0 0 (replicate (length f.opcodes) 0) (replicate f.width 0)

abbrev pub form_sheet : Form → ℕ → Sheet
form_sheet f hi = record {
  width = 2 + length f.opcodes + f.width;
  slots = f.slots;
  rows = 1;
  time_bits = 16 + hi;
  first_flag = 2;
  flags = length f.opcodes;
  owns = owns_of f;
  takes = owns_of f;
  alone = f.alone;
  constraints = λ row. form_constraints field f.parts (columns f row);
  lines = λ row. told_lines field hi (told_by f (columns f row));
  filled = λ done place. row_of_columns (filled_columns f done);
}

-- The same of expressions over the columns: at every row they have the values of the sheet.
pub record IsFormal (f : Form) (parts : Parts Expression Interaction) : Type 0 where
  pub constraints : (row : List ℕ) → map (value row) (form_constraints formal parts (columns_by (length f.opcodes) f.width column)) ≡ form_constraints field f.parts (columns f row)
  pub lines : (hi : ℕ) (row : List ℕ)
      → map (event_at row) (told_lines formal hi (form_told formal f.slots f.opcodes parts (columns_by (length f.opcodes) f.width column))) ≡ told_lines field hi (told_by f (columns f row))
