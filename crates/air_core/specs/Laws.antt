-- The laws of a table. Each is a fact about its sheet.
use Rattle.std.specs.Prelude.{◌≡◌, ℕ, ◌+◌, ◌^◌, ◌<◌, ◌≤◌, ◌⊎◌, Bool, true, false, ◌&&◌, ◌||◌, nat_eq, nat_le, List, [], ◌∷◌, ◌++◌, flat_map, length, take, drop, replicate}
use Rattle.std.specs.List.{AllByRecursion}
use Rattle.vm_isa.specs.declared.access.TimedAccess.{TimedAccess}
use Rattle.vm_isa.specs.declared.record.StepRecord.{StepRecord}
use Rattle.vm_isa.specs.Instr.{numbers_of}
use Rattle.vm_isa.specs.Slots.{slots_of}
use Rattle.vm_isa.specs.Means.{Fillable}
use Rattle.air_core.specs.declared.event.Event.{Event}
use Rattle.air_core.specs.declared.event.Side.TheVariants.{Send}
use Rattle.air_core.specs.Sheet.{Sheet, OwnsSome, RowHolds, IsRow, AllZero, row_events, sent, received}
use Rattle.air_core.specs.Lookups.{Good}
use Rattle.air_core.specs.Step.{on_bus, TimedStep, SoundStep}
use Rattle.air_core.specs.declared.bus.TheConstants.{MEMORY, EXECUTION, PROGRAM, XOR, SHA_CONSTANTS, FIRST_PRIVATE}

-- What is asked of a table for an opcode that it owns: it has the opcode's slots, and one row fills
-- a record of it.
pub record Owned (sheet : Sheet) (op : ℕ) : Type 0 where
  pub slots : slots_of op ≡ sheet.slots
  pub some : 1 ≤ sheet.slots
  pub few : sheet.slots ≤ 64
  pub takes : sheet.takes op ≡ true
  pub row : sheet.rows ≡ 1

-- Law Fits: a table's numbers are within the bounds that whole proofs rest on.
pub record Fits (sheet : Sheet) : Type 0 where
  pub bits_low : 24 ≤ sheet.time_bits
  pub bits_high : sheet.time_bits ≤ 29
  pub width : sheet.width ≤ 2 ^ 24
  pub rows : sheet.rows ≤ 64
  pub owned : (op : ℕ) → sheet.owns op ≡ true → Owned sheet op

-- the program bus and the lookup buses
abbrev pub is_lookup : ℕ → Bool
is_lookup bus = nat_eq bus PROGRAM || (nat_le XOR bus && nat_le bus SHA_CONSTANTS)

-- An event on a bus that the table may use in this way: lookups are only sent, the machine's buses
-- are for tables that own opcodes, and private buses for those that do not stand alone.
pub record MayBus (sheet : Sheet) (e : Event) : Type 0 where
  pub lookup : is_lookup e.bus ≡ true → e.side ≡ Send
  pub machine : e.bus < XOR → OwnsSome sheet
  pub private : FIRST_PRIVATE ≤ e.bus → sheet.alone ≡ false

-- Law Buses, of any row
pub record Buses (sheet : Sheet) : Type 0 where
  pub uses : (row : List ℕ) → AllByRecursion (MayBus sheet) (row_events sheet row)
  pub few : (row : List ℕ) → length (row_events sheet row) ≤ 256

-- Law Timed, of a table that owns opcodes: a row that holds, whose lookups and program tuple are
-- good, says nothing or is a step in time.
abbrev pub Timed : Sheet → Type 0
Timed sheet = OwnsSome sheet → (row : List ℕ) → IsRow sheet row → RowHolds sheet row → Good (row_events sheet row)
    → (row_events sheet row ≡ []) ⊎ TimedStep sheet.owns sheet.slots sheet.time_bits (row_events sheet row)

-- Law Sound, of a table whose rows mean something alone: the step is its instruction's meaning too.
abbrev pub Sound : Sheet → Type 0
Sound sheet = sheet.alone ≡ true → (row : List ℕ) → IsRow sheet row → RowHolds sheet row → Good (row_events sheet row)
    → (row_events sheet row ≡ []) ⊎ SoundStep sheet.owns sheet.slots sheet.time_bits (row_events sheet row)

-- the events of a record's access
abbrev pub record_events : TimedAccess → List Event
record_events a =
    received MEMORY 1 (a.access.space ∷ a.access.pointer ∷ (a.access.old ++ (a.before ∷ [])))
    ∷ sent MEMORY 1 (a.access.space ∷ a.access.pointer ∷ (a.access.new ++ (a.time ∷ [])))
    ∷ []

-- the events on the machine's buses are those of a record
pub record Recorded (done : StepRecord) (events : List Event) : Type 0 where
  pub path : on_bus EXECUTION events ≡ received EXECUTION 1 (done.instr.pc ∷ done.time ∷ []) ∷ sent EXECUTION 1 (done.next ∷ (done.time + slots_of done.instr.op) ∷ []) ∷ []
  pub program : on_bus PROGRAM events ≡ sent PROGRAM 1 (numbers_of done.instr) ∷ []
  pub memory : on_bus MEMORY events ≡ flat_map record_events done.accesses

-- A row that was filled: it holds, its lookups and its program tuple are good, each count is 1, and
-- in the table that owns the opcode it says what the record says.
pub record Filled (sheet : Sheet) (done : StepRecord) (row : List ℕ) : Type 0 where
  pub is_row : IsRow sheet row
  pub holds : RowHolds sheet row
  pub good : Good (row_events sheet row)
  pub counts : AllByRecursion (λ e. e.count ≡ 1) (row_events sheet row)
  pub recorded : sheet.owns done.instr.op ≡ true → Recorded done (row_events sheet row)

-- Law Complete
abbrev pub Complete : Sheet → Type 0
Complete sheet = (done : StepRecord) (place : ℕ) → Fillable sheet.time_bits done → sheet.takes done.instr.op ≡ true → place < sheet.rows
    → Filled sheet done (sheet.filled done place)

-- Law Quiet: a row of zeros holds, and a row whose flags are 0 says nothing.
pub record Quiet (sheet : Sheet) : Type 0 where
  pub holds : RowHolds sheet (replicate sheet.width 0)
  pub silent : (row : List ℕ) → AllZero (take sheet.flags (drop sheet.first_flag row)) → row_events sheet row ≡ []
