-- The laws of an extension. Each is a fact about its system.
use Rattle.std.specs.Prelude.{◌≡◌, ℕ, ◌+◌, ◌^◌, ◌<◌, ◌≤◌, ◌⊎◌, Bool, true, false, if◌then◌else◌, List, [], ◌∷◌, length, replicate, sum_by}
use Rattle.std.specs.List.{AllByRecursion}
use Rattle.vm_isa.specs.declared.record.StepRecord.{StepRecord}
use Rattle.vm_isa.specs.Slots.{slots_of}
use Rattle.vm_isa.specs.Means.{Fillable}
use Rattle.air_core.specs.declared.event.Event.{Event}
use Rattle.air_core.specs.declared.event.Side.TheVariants.{Send}
use Rattle.air_core.specs.Balance.{BalancedOn}
use Rattle.air_core.specs.Laws.{is_lookup, Recorded, Timed}
use Rattle.air_core.specs.Sheet.{Sheet, OwnsSome, RowHolds, row_events}
use Rattle.air_core.specs.Step.{SoundStep}
use Rattle.air_core.specs.System.{System, Part, is_owned, all_events, EachRow, GoodRow, Whole, tables_for}

-- A table has the slots of each opcode that it owns, and 1 to 64 of them.
pub record SlotsFit (sheet : Sheet) (op : ℕ) : Type 0 where
  pub are : slots_of op ≡ sheet.slots
  pub some : 1 ≤ sheet.slots
  pub few : sheet.slots ≤ 64

pub record PartFits (bits : ℕ) (p : Part) : Type 0 where
  pub bits_same : p.sheet.time_bits ≡ bits
  pub slots : (op : ℕ) → p.sheet.owns op ≡ true → SlotsFit p.sheet op

-- no opcode has two of these tables
abbrev pub OneOwner : List Part → Type 0
OneOwner [] = Unit {0}
OneOwner (p ∷ ps) = ((op : ℕ) → p.sheet.owns op ≡ true → is_owned ps op ≡ false) × OneOwner ps

abbrev pub width_of : List Part → ℕ
width_of parts = sum_by (λ p. p.sheet.width) parts

-- Law Fits: an extension's numbers are within the bounds that whole proofs rest on.
pub record ExtensionFits (x : System) : Type 0 where
  pub bits_low : 24 ≤ x.time_bits
  pub bits_high : x.time_bits ≤ 29
  pub count : length x.parts < 2 ^ 32
  pub width : width_of x.parts ≤ 2 ^ 24
  pub private_high : (bus : ℕ) → x.private bus ≡ true → 6 ≤ bus
  pub private_byte : (bus : ℕ) → x.private bus ≡ true → bus < 256
  pub parts : AllByRecursion (PartFits x.time_bits) x.parts
  pub owners : OneOwner x.parts

-- An event on a bus that a table may use in this way: lookups are only sent, the machine's buses are
-- for tables that own opcodes, and the others are the extension's private buses.
pub record OnOwnBus (private : ℕ → Bool) (sheet : Sheet) (e : Event) : Type 0 where
  pub lookup : is_lookup e.bus ≡ true → e.side ≡ Send
  pub machine : e.bus < 3 → OwnsSome sheet
  pub own : 6 ≤ e.bus → private e.bus ≡ true

pub record PartBuses (private : ℕ → Bool) (p : Part) : Type 0 where
  pub uses : (row : List ℕ) → AllByRecursion (OnOwnBus private p.sheet) (row_events p.sheet row)
  pub few : (row : List ℕ) → length (row_events p.sheet row) ≤ 256

-- Law Buses, of any row of any table
abbrev pub ExtensionBuses : System → Type 0
ExtensionBuses x = AllByRecursion (PartBuses x.private) x.parts

-- A record fills one row of the table that owns its opcode, no row of another table that has slots,
-- and at most 64 of any table.
pub record PartRows (p : Part) : Type 0 where
  pub owned : (done : StepRecord) → p.sheet.owns done.instr.op ≡ true → p.rows_for done ≡ 1
  pub others : (done : StepRecord) → p.sheet.owns done.instr.op ≡ false → 1 ≤ p.sheet.slots → p.rows_for done ≡ 0
  pub few : (done : StepRecord) → p.rows_for done ≤ 64

-- Law Rows: and a record of an opcode that no table owns fills no row.
pub record ExtensionRows (x : System) : Type 0 where
  pub parts : AllByRecursion PartRows x.parts
  pub unowned : (done : StepRecord) → is_owned x.parts done.instr.op ≡ false → AllByRecursion (λ p. p.rows_for done ≡ 0) x.parts

-- Law Timed, of each table
abbrev pub ExtensionTimed : System → Type 0
ExtensionTimed x = AllByRecursion (λ p. Timed p.sheet) x.parts

-- a row of a table that owns opcodes says nothing, or it is a step in time and its instruction's
-- meaning where its old words are bytes
abbrev pub SoundRow : Sheet → List ℕ → Type 0
SoundRow sheet row =
    OwnsSome sheet → (row_events sheet row ≡ []) ⊎ SoundStep sheet.owns sheet.slots sheet.time_bits (row_events sheet row)

-- Law Sound, over whole tables
abbrev pub ExtensionSound : System → Type 0
ExtensionSound x = (tables : List (List (List ℕ))) → Whole x tables → EachRow SoundRow x.parts tables

-- the count of a lookup
abbrev pub lookup_count : Event → ℕ
lookup_count e = if is_lookup e.bus then e.count else 0

-- a row of the owner says the record on the machine's buses
abbrev pub SaysRecord : StepRecord → Sheet → List ℕ → Type 0
SaysRecord done sheet row = sheet.owns done.instr.op ≡ true → Recorded done (row_events sheet row)

-- Rows that a record fills: they hold and their lookups are good, the owner's says the record,
-- and together they balance on the private buses and have few lookups.
pub record RecordRows (x : System) (done : StepRecord) (tables : List (List (List ℕ))) : Type 0 where
  pub rows : EachRow GoodRow x.parts tables
  pub says : EachRow (SaysRecord done) x.parts tables
  pub balanced : BalancedOn x.private (all_events x.parts tables)
  pub lookups : sum_by lookup_count (all_events x.parts tables) ≤ 4096

-- Law Complete, of a record of an opcode that a table owns
abbrev pub ExtensionComplete : System → Type 0
ExtensionComplete x = (done : StepRecord) → is_owned x.parts done.instr.op ≡ true → Fillable x.time_bits done → RecordRows x done (tables_for done x.parts)

-- a row of zeros holds and says nothing
pub record QuietZeros (sheet : Sheet) : Type 0 where
  pub holds : RowHolds sheet (replicate sheet.width 0)
  pub silent : row_events sheet (replicate sheet.width 0) ≡ []

-- Law Quiet, of each table
abbrev pub ExtensionQuiet : System → Type 0
ExtensionQuiet x = AllByRecursion (λ p. QuietZeros p.sheet) x.parts

-- Two extensions that can be joined.
pub record Joinable (x y : System) : Type 0 where
  pub bits : x.time_bits ≡ y.time_bits
  pub opcodes : (op : ℕ) → is_owned x.parts op ≡ true → is_owned y.parts op ≡ true → ⊥
  pub buses : (bus : ℕ) → x.private bus ≡ true → y.private bus ≡ true → ⊥
  pub count : length x.parts + length y.parts < 2 ^ 32
  pub width : width_of x.parts + width_of y.parts ≤ 2 ^ 24
