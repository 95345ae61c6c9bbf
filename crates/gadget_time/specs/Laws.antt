-- What rows of instruction tables say.
use Rattle.std.specs.Prelude.{◌≡◌, ◌≢◌, ℕ, ◌+◌, ◌*◌, ◌^◌, ◌<◌, ◌≤◌, false, nat_eq, List, [], ◌∷◌, map, length, Option, slice_index}
use Rattle.std.specs.List.{AllByRecursion}
use Rattle.vm_field.specs.Field.{modulus, field_add}
use Rattle.vm_isa.specs.declared.access.TimedAccess.{TimedAccess}
use Rattle.vm_isa.specs.declared.record.StepRecord.{StepRecord}
use Rattle.vm_isa.specs.Instr.{InRange, IsInstruction, numbers_of}
use Rattle.vm_isa.specs.Slots.{slots_of}
use Rattle.air_core.specs.declared.event.Event.{Event}
use Rattle.air_core.specs.Sheet.{Sheet, OwnsSome, AllZero, counted}
use Rattle.air_core.specs.Lookups.{Good, GoodEvent}
use Rattle.air_core.specs.Step.{Touched, Rising, NewBytes, IsStep}
use Rattle.air_core.specs.Hint.{NoHint}
use Rattle.air_core.specs.Laws.{MayBus, Recorded}
use Rattle.gadget_time.specs.declared.touch.Touch.{Touch}
use Rattle.gadget_time.specs.Told.{Told, told_lines, touch_constraint, touched_of, MadeByAll, made}
use Rattle.air_core.specs.Ring.{field}

abbrev pub ASilentRowSaysNothing : Type 0
ASilentRowSaysNothing = (hi : ℕ) (d : Told ℕ Event) → d.valid ≡ 0 → AllByRecursion (λ a. a.count ≡ 0) d.touches → AllByRecursion (λ e. e.count ≡ 0) d.others
    → counted (told_lines field hi d) ≡ []

abbrev pub AValidRowHasAnInstruction : Type 0
AValidRowHasAnInstruction = (hi : ℕ) (d : Told ℕ Event) → d.valid ≡ 1 → Good (counted (told_lines field hi d)) → IsInstruction d.numbers

-- counts are 0 or 1
abbrev pub CountsSmall : List (Touch ℕ) → Type 0
CountsSmall touches = AllByRecursion (λ a. a.count ≤ 1) touches

-- the other events of a row are not on the machine's buses
abbrev pub OffMachine : List Event → Type 0
OffMachine events = AllByRecursion (λ e. 3 ≤ e.bus) events

-- A valid row: the constraints of its accesses are 0, its lookups are good, and these are its accesses.
pub record TellsStep (hi : ℕ) (d : Told ℕ Event) (accesses : List Touched) : Type 0 where
  pub valid : d.valid ≡ 1
  pub time_below : d.time < modulus
  pub counts : CountsSmall d.touches
  pub off : OffMachine d.others
  pub times : AllZero (map (touch_constraint field d.time) d.touches)
  pub good : Good (counted (told_lines field hi d))
  pub slots : AllByRecursion (λ a. a.slot < d.slots) d.touches
  pub are : touched_of d.touches ≡ accesses
  pub rising : Rising 0 d.slots accesses
  pub new_bytes : NewBytes accesses

abbrev pub AValidRowIsAStep : Type 0
AValidRowIsAStep = (hi : ℕ) (d : Told ℕ Event) (accesses : List Touched) (i : IsInstruction d.numbers) → hi ≤ 13 → TellsStep hi d accesses → d.pc ≡ i.instr.pc
    → IsStep d.slots (16 + hi) i.instr d.time d.next accesses (counted (told_lines field hi d))

-- The columns of a row are those of a record, and its other events are good.
pub record TellsRecord (hi : ℕ) (done : StepRecord) (d : Told ℕ Event) (sources : List (Option TimedAccess)) : Type 0 where
  pub valid : d.valid ≡ 1
  pub pc : d.pc ≡ done.instr.pc
  pub time : d.time ≡ done.time
  pub next : d.next ≡ done.next
  pub slots : d.slots ≡ slots_of done.instr.op
  pub ends : done.time + slots_of done.instr.op ≤ 2 ^ (16 + hi)
  pub in_range : InRange done.instr
  pub numbers : d.numbers ≡ numbers_of done.instr
  pub made_by : MadeByAll hi d.time d.touches sources
  pub accesses : made sources ≡ done.accesses
  pub off : OffMachine d.others
  pub others_small : AllByRecursion (λ e. e.count ≤ 1) d.others
  pub others_good : AllByRecursion (λ e. e.count ≢ 0 → GoodEvent e) d.others

-- what such a row says
pub record SaysRecord (hi : ℕ) (done : StepRecord) (d : Told ℕ Event) : Type 0 where
  pub times : AllZero (map (touch_constraint field d.time) d.touches)
  pub good : Good (counted (told_lines field hi d))
  pub counts : AllByRecursion (λ e. e.count ≡ 1) (counted (told_lines field hi d))
  pub recorded : Recorded done (counted (told_lines field hi d))

abbrev pub AFilledRowSaysItsRecord : Type 0
AFilledRowSaysItsRecord = (hi : ℕ) (done : StepRecord) (d : Told ℕ Event) (sources : List (Option TimedAccess)) → hi ≤ 13 → TellsRecord hi done d sources → SaysRecord hi done d

abbrev pub ARowKeepsToItsBuses : Type 0
ARowKeepsToItsBuses = (hi : ℕ) (sheet : Sheet) (d : Told ℕ Event) → OwnsSome sheet → AllByRecursion (MayBus sheet) d.others
    → AllByRecursion (MayBus sheet) (counted (told_lines field hi d)) × (length (counted (told_lines field hi d)) ≤ 3 + 4 * length d.touches + length d.others)

abbrev pub ARowIsNoHint : Type 0
ARowIsNoHint = (hi : ℕ) (d : Told ℕ Event) → nat_eq (slice_index d.numbers 1) 37 ≡ false → nat_eq (slice_index d.numbers 1) 42 ≡ false → OffMachine d.others
    → NoHint (counted (told_lines field hi d))

-- no access is at the time of one slot
abbrev pub LaterThan : ℕ → ℕ → List Touched → Type 0
LaterThan time slot accesses = AllByRecursion (λ a. field_add time a.slot ≢ field_add time slot) accesses

abbrev pub AllApart : ℕ → List Touched → Type 0
AllApart time [] = Unit {0}
AllApart time (a ∷ more) = LaterThan time a.slot more × AllApart time more

abbrev pub AccessesAreApart : Type 0
AccessesAreApart = (time from slots : ℕ) (accesses : List Touched) → slots ≤ 64 → Rising from slots accesses → AllApart time accesses
