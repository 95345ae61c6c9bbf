-- Records that a machine took.
use Rattle.std.specs.Prelude.{◌≡◌, ℕ, ◌+◌, ◌*◌, ◌≤◌, true, List, length}
use Rattle.std.specs.List.{AllByRecursion}
use Rattle.vm_isa.specs.declared.instr.VmInstr.{VmInstr}
use Rattle.vm_isa.specs.declared.record.StepRecord.{StepRecord}
use Rattle.vm_isa.specs.Means.{Fillable}
use Rattle.vm_isa.specs.Words.{IsBytes}
use Rattle.air_core.specs.System.{is_owned}
use Rattle.vm_config.specs.Config.{full}
use Rattle.vm_executor.specs.Machine.{Machine, Since}

-- they are those since its segment began, of at most so many steps, and all tables can be filled from them
pub record TookSteps (program : List VmInstr) (pc : ℕ) (steps : ℕ) (done : List StepRecord) (m : Machine) : Type 0 where
  pub since : Since program pc done m
  pub few : length done ≤ steps
  pub fillable : AllByRecursion (Fillable 24) done
  pub owned : AllByRecursion (λ d. is_owned (full 8).parts d.instr.op ≡ true) done
  pub in_time : m.time ≤ 1 + 26 * steps
  pub bytes : IsBytes m.hints
