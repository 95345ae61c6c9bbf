-- The machine that is kept, as the machine of the definitions, and what a step of it comes to.
use Rattle.std.specs.Prelude.{◌≡◌, List}
use Rattle.vm_isa.specs.declared.instr.VmInstr.{VmInstr}
use Rattle.vm_isa.specs.Blocks.{Terminates}
use Rattle.vm_executor.specs.declared.machine.Machine.{Machine as State}
use Rattle.vm_executor.specs.declared.machine.Machined.{Machined}
use Rattle.vm_executor.specs.declared.machine.Machined.TheVariants.{Went, Ended, Stuck}
use Rattle.vm_executor.specs.Machine.{Machine, Goes, IsStuck}
use Rattle.vm_executor.specs.Memory.{now_of, began_of, times_of}

abbrev pub program_of : State → List VmInstr
program_of state = state.program.now

abbrev pub machine_of : State → Machine
machine_of state = record {
  pc = state.pc;
  time = state.time;
  hints = state.hints;
  now = now_of state.memory;
  start = began_of state.memory;
  times = times_of state.memory;
}

-- what a step from the old machine did
abbrev pub IsStep : List VmInstr → Machine → Machine → Machined → Type 0
IsStep program old new (Went done) = Goes program old new done
IsStep program old new (Ended code) = (new ≡ old) × Terminates program old.pc code
IsStep program old new Stuck = IsStuck program old new
