-- A branch: the words of two registers are read, and a condition on them says whether the next pc is the target.
-- A table gives the condition as a core of flags, two words and columns of its own.
use Rattle.std.specs.Prelude.{◌≡◌, ◌≢◌, ℕ, ◌+◌, ◌%◌, ◌^◌, ◌<◌, ◌≤◌, true, List, [], ◌∷◌, ◌++◌, length, slice_index, replicate}
use Rattle.std.specs.Int.{from_bool}
use Rattle.std.specs.List.{AllByRecursion}
use Rattle.vm_field.specs.Field.{modulus}
use Rattle.vm_field.specs.declared.limbs.Limbs.{Limbs}
use Rattle.vm_field.specs.Limbs.{list_of, limbs_by, limbs_from}
use Rattle.vm_word.specs.Word.{word_of_limbs}
use Rattle.vm_isa.specs.declared.record.StepRecord.{StepRecord}
use Rattle.vm_isa.specs.Opcodes.{is_branch}
use Rattle.vm_isa.specs.Results.{is_taken}
use Rattle.vm_isa.specs.Words.{IsBytes}
use Rattle.air_core.specs.declared.event.Event.{Event}
use Rattle.air_core.specs.Flags.{one_hot, opcode_place}
use Rattle.air_core.specs.Lookups.{GoodEvent}
use Rattle.air_core.specs.Ring.{Ring, field, cell, cells}
use Rattle.air_core.specs.Sheet.{AllZero, AllBelow}
use Rattle.gadget_time.specs.declared.touch.Touch.{Touch}
use Rattle.gadget_time.specs.Form.{Form, Parts, Columns, valid_of}
use Rattle.gadget_time.specs.FormLaws.{FormLaws}
use Rattle.adapter_regs.specs.Core.{Operands, operands, IsLookup}
use Rattle.adapter_regs.specs.Next.{next_by}
use Rattle.adapter_regs.specs.Regs.{register_touch, gap_by, gap_of, gap_cells, access_at, limbs_of_zero}

-- whether the branch is taken, as 1 or 0, and its own constraints and lookups
pub record ConditionParts (A E : Type 0) : Type 0 where
  pub taken : Operands A → A
  pub constraints : Operands A → List A
  pub lookups : Operands A → List E

pub record Condition : Type 0 where
  pub opcodes : List ℕ
  -- how many columns it has of its own
  pub own : ℕ
  pub parts : ConditionParts ℕ Event
  -- its own columns, of the place of the flag and the two words
  pub filled : ℕ → Limbs ℕ → Limbs ℕ → List ℕ

-- ---- the form: rs1, rs2, target, the two words, the condition's columns, and the times of both reads

abbrev pub left_of : {A E : Type 0} → Ring A E → List A → Limbs A
left_of o rest = limbs_by (cell o rest) 3

abbrev pub right_of : {A E : Type 0} → Ring A E → List A → Limbs A
right_of o rest = limbs_by (cell o rest) 7

abbrev pub operands_of : {A E : Type 0} → Ring A E → ℕ → Columns A → Operands A
operands_of o own c = operands c.flags (left_of o c.rest) (right_of o c.rest) (cells (cell o c.rest) 11 own)

-- the program row behind pc and opcode: two registers and a target
unfoldable pub branch_numbers : {A E : Type 0} → Ring A E → List A → List A
branch_numbers o rest =
    let zero = o.number 0 in
    zero ∷ cell o rest 0 ∷ cell o rest 1 ∷ zero ∷ zero ∷ zero ∷ zero ∷ zero ∷ zero ∷ cell o rest 2 ∷ []

-- both words are read
unfoldable pub branch_touches : {A E : Type 0} → Ring A E → ℕ → A → List A → List (Touch A)
branch_touches o own valid rest =
    register_touch o valid 0 (cell o rest 0) (left_of o rest) (left_of o rest) (gap_by (cell o rest) (11 + own))
    ∷ register_touch o valid 1 (cell o rest 1) (right_of o rest) (right_of o rest) (gap_by (cell o rest) (14 + own))
    ∷ []

abbrev pub branch_parts : {A E : Type 0} → Ring A E → ℕ → ConditionParts A E → Parts A E
branch_parts o own condition = record {
  next = λ c. next_by o c.pc (cell o c.rest 2) (condition.taken (operands_of o own c));
  numbers = λ c. branch_numbers o c.rest;
  touches = λ c. branch_touches o own (valid_of o c) c.rest;
  others = λ c. condition.lookups (operands_of o own c);
  constraints = λ c. condition.constraints (operands_of o own c);
}

-- the words of a record
abbrev pub left_filled : StepRecord → Limbs ℕ
left_filled done = limbs_from (access_at done.accesses 0).access.old

abbrev pub right_filled : StepRecord → Limbs ℕ
right_filled done = limbs_from (access_at done.accesses 1).access.old

abbrev pub place_filled : Condition → StepRecord → ℕ
place_filled condition done = opcode_place condition.opcodes done.instr.op

abbrev pub own_filled : Condition → StepRecord → List ℕ
own_filled condition done = condition.filled (place_filled condition done) (left_filled done) (right_filled done)

abbrev pub words_filled : StepRecord → List ℕ
words_filled done = done.instr.rs1 ∷ done.instr.rs2 ∷ done.instr.target % modulus ∷ (list_of (left_filled done) ++ list_of (right_filled done))

abbrev pub times_filled : StepRecord → List ℕ
times_filled done = gap_cells (gap_of (access_at done.accesses 0)) ++ gap_cells (gap_of (access_at done.accesses 1))

abbrev pub branch_form : Condition → Form
branch_form condition = record {
  slots = 2;
  opcodes = condition.opcodes;
  width = 17 + condition.own;
  alone = true;
  parts = branch_parts field condition.own condition.parts;
  place = place_filled condition;
  filled = λ done. words_filled done ++ (own_filled condition done ++ times_filled done);
}

-- ---- what a condition owes

-- the flag at a place is set, and both words are bytes
pub record IsConditionAt (condition : Condition) (k : ℕ) (o : Operands ℕ) : Type 0 where
  pub below : k < length condition.opcodes
  pub flags : o.flags ≡ one_hot (length condition.opcodes) k
  pub own_below : AllBelow o.own
  pub left : IsBytes (list_of o.left)
  pub right : IsBytes (list_of o.right)

-- whether the branch of an opcode is taken at two words
abbrev pub taken_at : ℕ → Operands ℕ → ℕ
taken_at op o = from_bool (is_taken op (word_of_limbs (list_of o.left)) (word_of_limbs (list_of o.right)))

-- its constraints are 0, and its lookups are good, each once or not at all
pub record IsGoodCondition (condition : Condition) (o : Operands ℕ) : Type 0 where
  pub zero : AllZero (condition.parts.constraints o)
  pub small : AllByRecursion (λ e. e.count ≤ 1) (condition.parts.lookups o)
  pub good : AllByRecursion (λ e. e.count ≢ 0 → GoodEvent e) (condition.parts.lookups o)

-- the columns that two words fill
pub record IsFilled (condition : Condition) (k : ℕ) (left right : Limbs ℕ) : Type 0 where
  pub long : length (condition.filled k left right) ≡ condition.own
  pub below : AllBelow (condition.filled k left right)
  pub good : IsGoodCondition condition (operands (one_hot (length condition.opcodes) k) left right (condition.filled k left right))

abbrev pub no_operands : Condition → Operands ℕ
no_operands condition = operands (replicate (length condition.opcodes) 0) (limbs_of_zero field) (limbs_of_zero field) (replicate condition.own 0)

pub record ConditionLaws (condition : Condition) : Type 0 where
  pub some : 1 ≤ length condition.opcodes
  pub few_flags : length condition.opcodes ≤ 64
  pub narrow : condition.own ≤ 2 ^ 15
  pub branches : AllByRecursion (λ op. is_branch op ≡ true) condition.opcodes
  pub lookups : (o : Operands ℕ) → AllByRecursion IsLookup (condition.parts.lookups o)
  pub few_lookups : (o : Operands ℕ) → length (condition.parts.lookups o) ≤ 240
  pub silent : (o : Operands ℕ) → AllZero o.flags → AllByRecursion (λ e. e.count ≡ 0) (condition.parts.lookups o)
  pub zeros : AllZero (condition.parts.constraints (no_operands condition))
  -- where its constraints are 0 and its lookups good, it says whether the branch is taken
  pub sound : (k : ℕ) (o : Operands ℕ) → IsConditionAt condition k o → AllZero (condition.parts.constraints o) → AllByRecursion (λ e. e.count ≢ 0 → GoodEvent e) (condition.parts.lookups o)
      → condition.parts.taken o ≡ taken_at (slice_index condition.opcodes k) o
  -- and the columns that two words fill are so
  pub complete : (k : ℕ) (left right : Limbs ℕ) → k < length condition.opcodes → IsBytes (list_of left) → IsBytes (list_of right) → IsFilled condition k left right

-- a condition with its laws is a form with its laws
abbrev pub AConditionIsAForm : Type 0
AConditionIsAForm = (condition : Condition) → ConditionLaws condition → FormLaws (branch_form condition)
