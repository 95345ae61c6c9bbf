-- What a table of the register form has of its own, and the form that it is with the registers around it.
use Rattle.std.specs.Prelude.{◌≡◌, ◌≢◌, ℕ, ◌+◌, ◌^◌, ◌<◌, ◌≤◌, Bool, true, false, cond, List, [], ◌++◌, length, slice_index, replicate}
use Rattle.std.specs.List.{AllByRecursion}
use Rattle.vm_word.specs.Word.{word_of_limbs, limbs_of}
use Rattle.vm_isa.specs.declared.record.StepRecord.{StepRecord}
use Rattle.vm_isa.specs.Words.{IsBytes}
use Rattle.vm_isa.specs.Opcodes.{is_mul}
use Rattle.vm_field.specs.declared.limbs.Limbs.{Limbs}
use Rattle.vm_field.specs.Limbs.{list_of}
use Rattle.air_core.specs.declared.event.Event.{Event}
use Rattle.air_core.specs.declared.event.Side.TheVariants.{Send}
use Rattle.air_core.specs.Ring.{Ring, field, cells, cell}
use Rattle.air_core.specs.Flags.{one_hot}
use Rattle.air_core.specs.Lookups.{GoodEvent}
use Rattle.air_core.specs.Sheet.{AllZero, AllBelow}
use Rattle.gadget_time.specs.Form.{Form, Parts, Columns, valid_of, owns_of}
use Rattle.gadget_time.specs.FormLaws.{FormLaws}
use Rattle.adapter_regs.specs.declared.regs.Regs.{Regs}
use Rattle.adapter_regs.specs.Regs.{regs_of, regs_touches, regs_numbers, immediate_constraints, words_from, limbs_of_zero, regs_filled, new_filled, regs_cells, time_cells}
use Rattle.vm_isa.specs.Opcodes.{is_register}
use Rattle.vm_isa.specs.Results.{result}

-- what a core sees of a row: the flags, the two words, and its own columns
pub record Operands (A : Type 0) : Type 0 where
  pub flags : List A
  pub left : Limbs A
  pub right : Limbs A
  pub own : List A

abbrev pub operands : {A : Type 0} → List A → Limbs A → Limbs A → List A → Operands A
operands flags left right own = record { flags = flags; left = left; right = right; own = own }

-- the word that is written, and its own constraints and lookups
pub record CoreParts (A E : Type 0) : Type 0 where
  pub new : Operands A → Limbs A
  pub constraints : Operands A → List A
  pub lookups : Operands A → List E

pub record Core : Type 0 where
  -- its instructions may have an immediate in place of the second word
  pub immediates : Bool
  -- the opcode of each flag; several flags may have one opcode
  pub opcodes : List ℕ
  -- how many columns it has of its own
  pub own : ℕ
  pub parts : CoreParts ℕ Event
  -- the place of the flag, of an opcode and the two words
  pub place : ℕ → Limbs ℕ → Limbs ℕ → ℕ
  -- its own columns, of the place of the flag, the two words and the new one
  pub filled : ℕ → Limbs ℕ → Limbs ℕ → Limbs ℕ → List ℕ

-- ---- the form

abbrev pub registers : {A E : Type 0} → Ring A E → Bool → ℕ → Columns A → Regs A
registers o immediates own c = regs_of o immediates own c.pc c.time c.rest

abbrev pub operands_of : {A E : Type 0} → Ring A E → Bool → ℕ → Columns A → Operands A
operands_of o immediates own c =
    let r = registers o immediates own c in
    operands c.flags r.left r.right (cells (cell o c.rest) (words_from immediates + 12) own)

abbrev pub regs_parts : {A E : Type 0} → Ring A E → Bool → ℕ → CoreParts A E → Parts A E
regs_parts o immediates own core = record {
  next = λ c. o.plus c.pc (o.number 4);
  numbers = λ c. regs_numbers o (registers o immediates own c);
  touches = λ c. regs_touches o (registers o immediates own c) (valid_of o c) (core.new (operands_of o immediates own c));
  others = λ c. core.lookups (operands_of o immediates own c);
  constraints = λ c. cond immediates (immediate_constraints o (registers o immediates own c)) [] ++ core.constraints (operands_of o immediates own c);
}

-- the place of the flag, and the operands, of a record
abbrev pub place_filled : Core → StepRecord → ℕ
place_filled core done = core.place done.instr.op (regs_filled done).left (regs_filled done).right

abbrev pub own_filled : Core → StepRecord → List ℕ
own_filled core done = core.filled (place_filled core done) (regs_filled done).left (regs_filled done).right (new_filled done)

abbrev pub regs_form : Core → Form
regs_form core = record {
  slots = 3;
  opcodes = core.opcodes;
  width = words_from core.immediates + 21 + core.own;
  alone = true;
  parts = regs_parts field core.immediates core.own core.parts;
  place = place_filled core;
  filled = λ done. regs_cells core.immediates (regs_filled done) ++ (own_filled core done ++ time_cells (regs_filled done));
}

-- ---- what a core owes: each law speaks of its flags, two words and its own columns, and of nothing else of a row

-- the flag at a place is set, and both words are bytes
pub record IsCoreAt (core : Core) (k : ℕ) (o : Operands ℕ) : Type 0 where
  pub below : k < length core.opcodes
  pub flags : o.flags ≡ one_hot (length core.opcodes) k
  pub own_long : length o.own ≡ core.own
  pub own_below : AllBelow o.own
  pub left : IsBytes (list_of o.left)
  pub right : IsBytes (list_of o.right)

-- the word that is written is the result of the two
pub record IsResult (op : ℕ) (o : Operands ℕ) (new : Limbs ℕ) : Type 0 where
  pub bytes : IsBytes (list_of new)
  pub result_is : word_of_limbs (list_of new) ≡ result op (word_of_limbs (list_of o.left)) (word_of_limbs (list_of o.right))

-- the limbs of the result of two words
pub record IsResultOf (op : ℕ) (left right new : Limbs ℕ) : Type 0 where
  pub bytes : IsBytes (list_of new)
  pub is : list_of new ≡ limbs_of (result op (word_of_limbs (list_of left)) (word_of_limbs (list_of right)))

-- a lookup on the buses 3 to 5
pub record IsLookup (e : Event) : Type 0 where
  pub low : 3 ≤ e.bus
  pub high : e.bus ≤ 5
  pub side : e.side ≡ Send

-- its constraints are 0, and its lookups are good, each once or not at all
pub record IsGoodCore (core : Core) (o : Operands ℕ) : Type 0 where
  pub zero : AllZero (core.parts.constraints o)
  pub small : AllByRecursion (λ e. e.count ≤ 1) (core.parts.lookups o)
  pub good : AllByRecursion (λ e. e.count ≢ 0 → GoodEvent e) (core.parts.lookups o)

-- the place of an opcode and two words, and its own columns
pub record IsPlaced (core : Core) (op : ℕ) (left right new : Limbs ℕ) : Type 0 where
  pub below : core.place op left right < length core.opcodes
  pub opcode : slice_index core.opcodes (core.place op left right) ≡ op
  pub long : length (core.filled (core.place op left right) left right new) ≡ core.own
  pub own_below : AllBelow (core.filled (core.place op left right) left right new)

-- operands of zeros
abbrev pub no_operands : Core → Operands ℕ
no_operands core = operands (replicate (length core.opcodes) 0) (limbs_of_zero field) (limbs_of_zero field) (replicate core.own 0)

pub record CoreLaws (core : Core) : Type 0 where
  pub some : 1 ≤ length core.opcodes
  pub few_flags : length core.opcodes ≤ 64
  pub narrow : core.own ≤ 2 ^ 15
  pub registers : AllByRecursion (λ op. is_register op ≡ true) core.opcodes
  -- without immediates, its opcodes never have one
  pub products : core.immediates ≡ false → AllByRecursion (λ op. is_mul op ≡ true) core.opcodes
  pub lookups : (o : Operands ℕ) → AllByRecursion IsLookup (core.parts.lookups o)
  pub few_lookups : (o : Operands ℕ) → length (core.parts.lookups o) ≤ 240
  pub silent : (o : Operands ℕ) → AllZero o.flags → AllByRecursion (λ e. e.count ≡ 0) (core.parts.lookups o)
  pub zeros : AllZero (core.parts.constraints (no_operands core))
  -- where its constraints are 0 and its lookups good, it writes the result of its opcode
  pub sound : (k : ℕ) (o : Operands ℕ) → IsCoreAt core k o → AllZero (core.parts.constraints o) → AllByRecursion (λ e. e.count ≢ 0 → GoodEvent e) (core.parts.lookups o)
      → IsResult (slice_index core.opcodes k) o (core.parts.new o)
  pub placed : (op : ℕ) (left right new : Limbs ℕ) → owns_of (regs_form core) op ≡ true → IsBytes (list_of left) → IsBytes (list_of right) → IsResultOf op left right new → IsPlaced core op left right new
  -- and the columns of an opcode, two words and their result are so
  pub complete : (op : ℕ) (o : Operands ℕ) (new : Limbs ℕ) → IsCoreAt core (core.place op o.left o.right) o → IsResultOf op o.left o.right new
      → slice_index core.opcodes (core.place op o.left o.right) ≡ op → o.own ≡ core.filled (core.place op o.left o.right) o.left o.right new → IsGoodCore core o

-- a core with its laws is a form with its laws
abbrev pub ACoreIsAForm : Type 0
ACoreIsAForm = (core : Core) → CoreLaws core → FormLaws (regs_form core)
