-- The rows of a segment, and the one run that balanced buses make of them.
use Rattle.std.specs.Prelude.{◌≡◌, ℕ, ◌+◌, ◌^◌, ◌<◌, ◌≤◌, Option, Some, None, List, [], ◌∷◌, ◌++◌, map, flat_map, IsPermutation}
use Rattle.std.specs.List.{AllByRecursion}
use Rattle.vm_field.specs.Field.{field_add}
use Rattle.vm_isa.specs.declared.instr.VmInstr.{VmInstr}
use Rattle.vm_isa.specs.Words.{IsBytes}
use Rattle.air_core.specs.declared.event.Event.{Event}
use Rattle.air_core.specs.Step.{IsStep, Touched as RowAccess}
use Rattle.air_core.specs.Orders.{Rises}
use Rattle.exec_path.specs.Path.{Point, TimedRow, IsPath, slot_sum}
use Rattle.exec_path.specs.PathEvents.{connector_events}
use Rattle.vm_trace.specs.declared.page.Touched.{Touched}
use Rattle.offline_memory.specs.Memory.{Access, InTime}
use Rattle.offline_memory.specs.MemoryEvents.{boundary_events}
use Rattle.offline_memory.specs.Pages.{PagesOfBytes, SequentialMemory}

-- The step of a valid row: its slots, how many bits its table has for times, its instruction, its time,
-- the next pc, and its accesses in the order of their slots.
pub record RowStep : Type 0 where
  pub slots : ℕ
  pub bits : ℕ
  pub instr : VmInstr
  pub time : ℕ
  pub next : ℕ
  pub accesses : List RowAccess

-- an access of a row with its time, modulo p
abbrev pub timed_access : ℕ → RowAccess → Access
timed_access time a = record { space = a.space; pointer = a.pointer; old = a.old; before = a.before; new = a.new; time = field_add time a.slot }

abbrev pub timed_accesses : RowStep → List Access
timed_accesses step = map (timed_access step.time) step.accesses

abbrev pub accesses_of : List RowStep → List Access
accesses_of steps = flat_map timed_accesses steps

-- what the step does on the execution bus
abbrev pub timed_row : RowStep → TimedRow
timed_row step = record { from_pc = step.instr.pc; from_time = step.time; to_pc = step.next; to_time = field_add step.time step.slots; slots = step.slots }

abbrev pub timed_rows : List RowStep → List TimedRow
timed_rows steps = map timed_row steps

-- a row of any table: its events, and its step, if it is valid
pub record TableRow : Type 0 where
  pub events : List Event
  pub step : Option RowStep

-- no event is on this bus
abbrev pub NotOn : ℕ → List Event → Type 0
NotOn bus events = AllByRecursion (λ e. e.bus ≡ bus → ⊥) events

-- the events are this step in time; it takes a slot, and its table's times go as far as the bound
pub record SaysStep (bound : ℕ) (events : List Event) (step : RowStep) : Type 0 where
  pub some : 1 ≤ step.slots
  pub far : bound ≤ 2 ^ step.bits
  pub is_step : IsStep step.slots step.bits step.instr step.time step.next step.accesses events

-- a row says its step, or nothing on the execution bus and the memory bus
abbrev pub SaysIfValid : ℕ → List Event → Option RowStep → Type 0
SaysIfValid bound events (Some step) = SaysStep bound events step
SaysIfValid bound events None = NotOn 0 events × NotOn 2 events

abbrev pub RowSays : ℕ → TableRow → Type 0
RowSays bound row = SaysIfValid bound row.events row.step

-- the steps of the valid rows
abbrev pub step_list : Option RowStep → List RowStep
step_list (Some step) = step ∷ []
step_list None = []

abbrev pub steps_of : List TableRow → List RowStep
steps_of rows = flat_map (λ (row : TableRow). step_list row.step) rows

-- all events of a segment: the connector's, the rows', others, as those of lookup tables, and the pages'
abbrev pub run_events : Point → Point → List Touched → List TableRow → List Event → List Event
run_events start end pages rows others =
    connector_events start end ++ (flat_map (λ (row : TableRow). row.events) rows ++ (others ++ flat_map boundary_events pages))

-- the row's time, and those of its accesses, do not wrap
pub record WholeTimes (step : RowStep) : Type 0 where
  pub ends : field_add step.time step.slots ≡ step.time + step.slots
  pub accesses : AllByRecursion (λ a. field_add step.time a.slot ≡ step.time + a.slot) step.accesses

-- all words of a row are bytes
abbrev pub StepHasBytes : RowStep → Type 0
StepHasBytes step = AllByRecursion (λ a. IsBytes a.old × IsBytes a.new) step.accesses

-- The steps are one run: in the order of their times they are one path from the start to the end, no time
-- wraps, and along the path their accesses are one sequential memory over the pages. All its words are
-- bytes, where the pages' old bytes are.
pub record OneRun (start end : Point) (pages : List Touched) (steps : List RowStep) : Type 0 where
  pub path : List RowStep
  pub same_steps : IsPermutation steps path
  pub is_path : IsPath start (timed_rows path) end
  pub rises : Rises (λ (step : RowStep). step.time) path
  pub ends : end.time ≡ start.time + slot_sum (timed_rows steps)
  pub whole : AllByRecursion WholeTimes path
  pub in_time : InTime (accesses_of path)
  pub bounded : AllByRecursion (λ a. (start.time ≤ a.time) × (a.time < end.time)) (accesses_of path)
  pub memory : SequentialMemory pages (accesses_of path)
  pub bytes : PagesOfBytes pages → AllByRecursion StepHasBytes path
