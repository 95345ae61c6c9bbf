-- The records of a segment, one step after the other.
use Rattle.std.specs.Prelude.{◌≡◌, ℕ, ◌+◌, ◌≤◌, true, List, [], ◌∷◌, flat_map, map, length, Contains}
use Rattle.std.specs.List.{AllByRecursion}
use Rattle.vm_isa.specs.declared.access.TimedAccess.{TimedAccess}
use Rattle.vm_isa.specs.declared.instr.VmInstr.{VmInstr}
use Rattle.vm_isa.specs.declared.record.StepRecord.{StepRecord}
use Rattle.vm_isa.specs.Means.{Fillable}
use Rattle.vm_isa.specs.Slots.{slots_of}
use Rattle.air_core.specs.System.{System, is_owned}
use Rattle.exec_path.specs.Path.{Point}
use Rattle.offline_memory.specs.Memory.{Access}
use Rattle.offline_memory.specs.Linked.{unmet, Linked}

-- each record begins where the one before it went
unfoldable pub Chained : Point → List StepRecord → Type 0
Chained from [] = Unit {0}
Chained from (d ∷ more) = (d.instr.pc ≡ from.pc) × (d.time ≡ from.time) × Chained (record { pc = d.next; time = d.time + slots_of d.instr.op }) more

-- a segment begins at a pc, at time 1
abbrev pub start_at : ℕ → Point
start_at pc = record { pc = pc; time = 1 }

-- where the last one goes
abbrev pub point_after : Point → List StepRecord → Point
point_after from [] = from
point_after from (d ∷ more) = point_after (record { pc = d.next; time = d.time + slots_of d.instr.op }) more

abbrev pub access_of : TimedAccess → Access
access_of a = record { space = a.access.space; pointer = a.access.pointer; old = a.access.old; before = a.before; new = a.access.new; time = a.time }

-- the accesses of all records in order
abbrev pub accesses_of : List StepRecord → List Access
accesses_of done = flat_map (λ d. map access_of d.accesses) done

-- the records of a segment that begins at a pc, of opcodes of an extension
pub record AreRecords (x : System) (program : List VmInstr) (pc : ℕ) (done : List StepRecord) : Type 0 where
  pub few : length done ≤ 65536
  pub owned : AllByRecursion (λ d. is_owned x.parts d.instr.op ≡ true) done
  pub stand : AllByRecursion (λ d. Contains program d.instr) done
  pub fillable : AllByRecursion (λ d. Fillable x.time_bits d) done
  pub chained : Chained (start_at pc) done
  pub linked : Linked unmet (accesses_of done)
