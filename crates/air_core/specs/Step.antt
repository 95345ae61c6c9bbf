-- What a valid row says: one step on the execution bus, its program row and its accesses.
use Rattle.std.specs.Prelude.{◌≡◌, ℕ, ◌+◌, ◌^◌, ◌<◌, ◌≤◌, Bool, true, nat_eq, if◌then◌else◌, List, [], ◌∷◌, ◌++◌, flat_map, map, length, Some}
use Rattle.std.specs.List.{AllByRecursion}
use Rattle.vm_field.specs.Field.{modulus, field_add}
use Rattle.vm_isa.specs.declared.instr.VmInstr.{VmInstr}
use Rattle.vm_isa.specs.Words.{IsBytes}
use Rattle.vm_isa.specs.Instr.{InRange, numbers_of}
use Rattle.vm_isa.specs.Means.{Accessed, means_of}
use Rattle.air_core.specs.declared.event.Event.{Event}
use Rattle.air_core.specs.Sheet.{sent, received}
use Rattle.air_core.specs.declared.bus.TheConstants.{MEMORY, EXECUTION, PROGRAM}

abbrev pub if_on : ℕ → Event → List Event
if_on bus e = if nat_eq e.bus bus then e ∷ [] else []

-- the events of one bus
abbrev pub on_bus : ℕ → List Event → List Event
on_bus bus events = flat_map (if_on bus) events

-- one access of a row
pub record Touched : Type 0 where
  pub slot : ℕ
  pub space : ℕ
  pub pointer : ℕ
  pub old : List ℕ
  pub new : List ℕ
  pub before : ℕ

-- its two events: the old word leaves the memory bus with its old time, and the new word comes with
-- the row's time plus the slot, modulo p
abbrev pub touched_events : ℕ → Touched → List Event
touched_events time a =
    received MEMORY 1 (a.space ∷ a.pointer ∷ (a.old ++ (a.before ∷ [])))
    ∷ sent MEMORY 1 (a.space ∷ a.pointer ∷ (a.new ++ (field_add time a.slot ∷ [])))
    ∷ []

-- both words are four numbers
pub record FourEach (a : Touched) : Type 0 where
  pub old : length a.old ≡ 4
  pub new : length a.new ≡ 4

-- the slots rise, from one number on and below another
abbrev pub Rising : ℕ → ℕ → List Touched → Type 0
Rising from slots [] = Unit {0}
Rising from slots (a ∷ more) = (from ≤ a.slot) × (a.slot < slots) × Rising (a.slot + 1) slots more

-- a new word is bytes, where the old words of its access and of those before it are
abbrev pub NewBytes : List Touched → Type 0
NewBytes [] = Unit {0}
NewBytes (a ∷ more) = IsBytes a.old → (IsBytes a.new × NewBytes more)

-- The events on the machine's buses: one receive and one send on the execution bus, one program
-- tuple, and the accesses. Each count is 1.
pub record Spoken (slots : ℕ) (instr : VmInstr) (time next : ℕ) (accesses : List Touched) (events : List Event) : Type 0 where
  pub path : on_bus EXECUTION events ≡ received EXECUTION 1 (instr.pc ∷ time ∷ []) ∷ sent EXECUTION 1 (next ∷ field_add time slots ∷ []) ∷ []
  pub program : on_bus PROGRAM events ≡ sent PROGRAM 1 (numbers_of instr) ∷ []
  pub memory : on_bus MEMORY events ≡ flat_map (touched_events time) accesses

-- The events are a step in time. Nothing is asked of old words but for the bytes of new ones; an
-- access is after the old time of its block where the step ends by 2 ^ bits and this old time is no later.
pub record IsStep (slots bits : ℕ) (instr : VmInstr) (time next : ℕ) (accesses : List Touched) (events : List Event) : Type 0 where
  pub in_range : InRange instr
  pub time_below : time < modulus
  pub spoken : Spoken slots instr time next accesses events
  pub words : AllByRecursion FourEach accesses
  pub rising : Rising 0 slots accesses
  pub earlier : time + slots ≤ 2 ^ bits → AllByRecursion (λ a. a.before ≤ 2 ^ bits → a.before < time + a.slot) accesses
  pub new_bytes : NewBytes accesses

abbrev pub accessed : Touched → Accessed
accessed a = record { slot = a.slot; space = a.space; pointer = a.pointer; old = a.old; new = a.new }

-- the instruction has a meaning at the old words, and it is these accesses and this next pc
abbrev pub IsMeaning : VmInstr → List Touched → ℕ → Type 0
IsMeaning instr accesses next =
    (given : List ℕ) × (means_of instr (map (λ a. a.old) accesses) given ≡ Some (record { accesses = map accessed accesses; next = next }))

-- the events are a step in time of an opcode that the table owns
pub record TimedStep (owns : ℕ → Bool) (slots bits : ℕ) (events : List Event) : Type 0 where
  pub instr : VmInstr
  pub time : ℕ
  pub next : ℕ
  pub accesses : List Touched
  pub owned : owns instr.op ≡ true
  pub step : IsStep slots bits instr time next accesses events

-- and, where the old words are bytes, the meaning of its instruction
pub record SoundStep (owns : ℕ → Bool) (slots bits : ℕ) (events : List Event) : Type 0 where
  pub instr : VmInstr
  pub time : ℕ
  pub next : ℕ
  pub accesses : List Touched
  pub owned : owns instr.op ≡ true
  pub step : IsStep slots bits instr time next accesses events
  pub means : AllByRecursion (λ a. IsBytes a.old) accesses → IsMeaning instr accesses next
