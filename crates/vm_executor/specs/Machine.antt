-- The machine with its times, and one completed step of it.
use Rattle.std.specs.Prelude.{◌≡◌, ℕ, ◌+◌, ◌<◌, ◌≤◌, ◌&&◌, nat_eq, if◌then◌else◌, List, [], ◌∷◌, map, Some, Contains}
use Rattle.std.specs.List.{AllByRecursion}
use Rattle.vm_isa.specs.declared.access.TimedAccess.{TimedAccess}
use Rattle.vm_isa.specs.declared.instr.VmInstr.{VmInstr}
use Rattle.vm_isa.specs.declared.record.StepRecord.{StepRecord}
use Rattle.vm_isa.specs.Blocks.{Blocks, VmState, VmStep, Meets, Terminates, after_accesses}
use Rattle.vm_isa.specs.Hints.{Hints, AreEnough, hints_after, next_hint}
use Rattle.vm_isa.specs.Means.{Meaning, means_of, placed, placed_at}
use Rattle.vm_isa.specs.Slots.{slots_of}
use Rattle.vm_isa.specs.Words.{IsWord}
use Rattle.offline_memory.specs.Memory.{Replays}
use Rattle.vm_executor.specs.Pages.{Times, never, with_times}
use Rattle.vm_executor.specs.Records.{Chained, point_after, start_at, accesses_of}

pub record Machine : Type 0 where
  pub pc : ℕ
  pub time : ℕ
  -- the hint bytes that are left
  pub hints : Hints
  -- the memory now, and where the segment began
  pub now : Blocks
  pub start : Blocks
  -- of each block's last access in the segment; 0 where there is none
  pub times : Times

-- without times
abbrev pub vm_state : Machine → VmState
vm_state m = record { pc = m.pc; blocks = m.now; hints = m.hints }

-- a segment begins
abbrev pub begun : Machine → Machine
begun m = record { pc = m.pc; time = 1; hints = m.hints; now = m.now; start = m.now; times = never }

abbrev pub with_time : Times → ℕ → ℕ → ℕ → Times
with_time times space pointer time s p = if nat_eq s space && nat_eq p pointer then time else times s p

-- the times after accesses
abbrev pub times_after : Times → List TimedAccess → Times
times_after times [] = times
times_after times (a ∷ more) = times_after (with_time times a.access.space a.access.pointer a.time) more

-- the old time of each access is that of its block's last access
abbrev pub Befores : Times → List TimedAccess → Type 0
Befores times [] = Unit {0}
Befores times (a ∷ more) = (a.before ≡ times a.access.space a.access.pointer) × Befores (with_time times a.access.space a.access.pointer a.time) more

-- A completed step: its record is the meaning of the program row at the pc, each access with its time and
-- the time before, and the machine goes on as the meaning says.
pub record Goes (program : List VmInstr) (old new : Machine) (done : StepRecord) : Type 0 where
  pub stands : Contains program done.instr
  pub here : done.instr.pc ≡ old.pc
  pub begins : done.time ≡ old.time
  pub words : AllByRecursion (λ a. IsWord a.access.old) done.accesses
  pub meaning : Meaning
  pub means : means_of done.instr (map (λ a. a.access.old) done.accesses) (next_hint old.hints) ≡ Some meaning
  pub accesses : map placed done.accesses ≡ map (placed_at done.time) meaning.accesses
  pub next : done.next ≡ meaning.next
  pub meets : Meets old.now meaning.accesses
  pub before : Befores old.times done.accesses
  pub enough : AreEnough done.instr.op old.hints
  pub after : new ≡ record {
    pc = done.next;
    time = old.time + slots_of done.instr.op;
    hints = hints_after done.instr.op old.hints;
    now = after_accesses old.now meaning.accesses;
    start = old.start;
    times = times_after old.times done.accesses;
  }

-- The records are the steps of a machine since its segment began at a pc.
pub record Since (program : List VmInstr) (pc : ℕ) (done : List StepRecord) (m : Machine) : Type 0 where
  pub chained : Chained (start_at pc) done
  pub reached : point_after (start_at pc) done ≡ record { pc = m.pc; time = m.time }
  pub stand : AllByRecursion (λ d. Contains program d.instr) done
  pub replays : Replays (with_times m.start never) (accesses_of done) (with_times m.now m.times)
  pub early : (space pointer : ℕ) → m.times space pointer < m.time
  pub late : AllByRecursion (λ a. 1 ≤ a.time) (accesses_of done)

-- no step is done: the machine stays as it was, its row is no TERMINATE, and there is no step on blocks
pub record IsStuck (program : List VmInstr) (old new : Machine) : Type 0 where
  pub stays : new ≡ old
  pub no_end : (code : ℕ) → Terminates program old.pc code → ⊥
  pub no_step : (t : VmState) → VmStep program (vm_state old) t → ⊥
