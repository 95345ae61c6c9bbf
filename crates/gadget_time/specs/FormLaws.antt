-- What a form owes, and what its table then is. Each law speaks of a row by its parts.
use Rattle.std.specs.Prelude.{◌≡◌, ◌≢◌, ℕ, ◌+◌, ◌*◌, ◌^◌, ◌<◌, ◌≤◌, Bool, true, false, nat_eq, List, ◌∷◌, length, map, slice_index, Option}
use Rattle.std.specs.List.{AllByRecursion}
use Rattle.vm_field.specs.Field.{modulus}
use Rattle.vm_isa.specs.declared.access.TimedAccess.{TimedAccess}
use Rattle.vm_isa.specs.declared.record.StepRecord.{StepRecord}
use Rattle.vm_isa.specs.Opcodes.{HINT, HINT_NEXT}
use Rattle.vm_isa.specs.Slots.{slots_of}
use Rattle.vm_isa.specs.Words.{IsBytes}
use Rattle.vm_isa.specs.Instr.{IsInstruction, numbers_of}
use Rattle.vm_isa.specs.Means.{Fillable}
use Rattle.air_core.specs.declared.event.Event.{Event}
use Rattle.air_core.specs.declared.event.Side.TheVariants.{Send}
use Rattle.air_core.specs.Ring.{field}
use Rattle.air_core.specs.Flags.{one_hot}
use Rattle.air_core.specs.Hint.{NoHint}
use Rattle.air_core.specs.Sheet.{IsRow, RowHolds, AllZero, AllBelow, row_events}
use Rattle.air_core.specs.Lookups.{GoodEvent}
use Rattle.air_core.specs.Step.{Touched, Rising, NewBytes, IsMeaning}
use Rattle.air_core.specs.Laws.{Fits, Buses, Sound, Timed, Complete, Quiet}
use Rattle.gadget_time.specs.Told.{touch_constraint, touched_of, MadeByAll, made}
use Rattle.gadget_time.specs.Laws.{CountsSmall}
use Rattle.gadget_time.specs.Form.{Form, Columns, owns_of, filled_columns, no_columns, form_sheet}

-- an event beside path, program row and accesses: a lookup, or one on a private bus of a table that doesn't stand alone
pub record IsOther (alone : Bool) (e : Event) : Type 0 where
  pub off : 3 ≤ e.bus
  pub lookup : e.bus ≤ 5 → e.side ≡ Send
  pub private : 6 ≤ e.bus → alone ≡ false

-- bounds, and a row of zeros
pub record FormBounds (f : Form) : Type 0 where
  pub some : 1 ≤ length f.opcodes
  pub few_flags : length f.opcodes ≤ 64
  pub opcodes_below : AllBelow f.opcodes
  pub slots_some : 1 ≤ f.slots
  pub slots_few : f.slots ≤ 64
  pub slots : AllByRecursion (λ op. slots_of op ≡ f.slots) f.opcodes
  pub narrow : f.width ≤ 2 ^ 16
  pub few : (c : Columns ℕ) → 4 * length (f.parts.touches c) + length (f.parts.others c) ≤ 253
  pub others : (c : Columns ℕ) → AllByRecursion (IsOther f.alone) (f.parts.others c)
  pub zeros : AllZero (f.parts.constraints (no_columns f))
  pub zero_touches : AllZero (map (touch_constraint field 0) (f.parts.touches (no_columns f)))
  pub silent_touches : (c : Columns ℕ) → AllZero c.flags → AllByRecursion (λ a. a.count ≡ 0) (f.parts.touches c)
  pub silent_others : (c : Columns ℕ) → AllZero c.flags → AllByRecursion (λ e. e.count ≡ 0) (f.parts.others c)

-- the flag at a place is set
pub record IsAt (f : Form) (k : ℕ) (c : Columns ℕ) : Type 0 where
  pub below : k < length f.opcodes
  pub flags : c.flags ≡ one_hot (length f.opcodes) k
  pub rest_long : length c.rest ≡ f.width
  pub rest_below : AllBelow c.rest
  pub pc_below : c.pc < modulus
  pub time_below : c.time < modulus

-- its constraints are 0, and its lookups good
pub record FormHolds (f : Form) (c : Columns ℕ) : Type 0 where
  pub zero : AllZero (f.parts.constraints c)
  pub good : AllByRecursion (λ e. e.count ≢ 0 → GoodEvent e) (f.parts.others c)

-- the instruction of a program row with the opcode of a flag
abbrev pub InstructionAt : Form → ℕ → Columns ℕ → Type 0
InstructionAt f k c = IsInstruction (c.pc ∷ slice_index f.opcodes k ∷ f.parts.numbers c)

-- its accesses are in order
pub record Tells (f : Form) (c : Columns ℕ) : Type 0 where
  pub accesses : List Touched
  pub counts : CountsSmall (f.parts.touches c)
  pub slots : AllByRecursion (λ a. a.slot < f.slots) (f.parts.touches c)
  pub are : touched_of (f.parts.touches c) ≡ accesses
  pub rising : Rising 0 f.slots accesses
  pub new_bytes : NewBytes accesses

-- The columns that a record fills: they meet the form's constraints, their lookups are good, and they tell the record.
pub record TellsDone (f : Form) (hi : ℕ) (done : StepRecord) : Type 0 where
  pub below : f.place done < length f.opcodes
  pub opcode : slice_index f.opcodes (f.place done) ≡ done.instr.op
  pub rest_long : length (f.filled done) ≡ f.width
  pub rest_below : AllBelow (f.filled done)
  pub holds : FormHolds f (filled_columns f done)
  pub others_small : AllByRecursion (λ e. e.count ≤ 1) (f.parts.others (filled_columns f done))
  pub next : f.parts.next (filled_columns f done) ≡ done.next
  pub numbers : done.instr.pc ∷ done.instr.op ∷ f.parts.numbers (filled_columns f done) ≡ numbers_of done.instr
  pub sources : List (Option TimedAccess)
  pub made_by : MadeByAll hi done.time (f.parts.touches (filled_columns f done)) sources
  pub accesses : made sources ≡ done.accesses

pub record FormLaws (f : Form) : Type 0 where
  pub bounds : FormBounds f
  pub tells : (k : ℕ) (c : Columns ℕ) → IsAt f k c → FormHolds f c → InstructionAt f k c → Tells f c
  pub means : f.alone ≡ true → (k : ℕ) (c : Columns ℕ) (at : IsAt f k c) (holds : FormHolds f c) (i : InstructionAt f k c)
      → AllByRecursion (λ a. IsBytes a.old) (tells k c at holds i).accesses → IsMeaning i.instr (tells k c at holds i).accesses (f.parts.next c)
  pub fills : (hi : ℕ) (done : StepRecord) → hi ≤ 13 → Fillable (16 + hi) done → owns_of f done.instr.op ≡ true → TellsDone f hi done

-- no row of these opcodes is a hint
abbrev pub NoHints : Form → Type 0
NoHints f = AllByRecursion (λ op. (nat_eq op HINT ≡ false) × (nat_eq op HINT_NEXT ≡ false)) f.opcodes

-- What follows of the table, with times of 16 + hi bits.
pub record FormTable (f : Form) (hi : ℕ) : Type 0 where
  pub fits : Fits (form_sheet f hi)
  pub buses : Buses (form_sheet f hi)
  pub timed : Timed (form_sheet f hi)
  pub sound : Sound (form_sheet f hi)
  pub complete : Complete (form_sheet f hi)
  pub quiet : Quiet (form_sheet f hi)
  pub hint : NoHints f → (row : List ℕ) → IsRow (form_sheet f hi) row → RowHolds (form_sheet f hi) row → NoHint (row_events (form_sheet f hi) row)

abbrev pub AFormIsATable : Type 0
AFormIsATable = (f : Form) (hi : ℕ) → FormLaws f → 8 ≤ hi → hi ≤ 13 → FormTable f hi
