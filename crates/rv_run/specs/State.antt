-- The state that is kept, as the machine and the program that it stands for.
use Rattle.std.specs.Prelude.{◌≡◌}
use Rattle.elf_image.specs.Loaded.{Loaded}
use Rattle.rv_decode.specs.declared.instr.Instr.{Instr}
use Rattle.rv_run.specs.declared.outcome.Stepped.{Stepped}
use Rattle.rv_run.specs.declared.outcome.Stepped.TheVariants.{Went, Ended, Trapped}
use Rattle.rv_run.specs.declared.state.State.{State}
use Rattle.rv_run.specs.Machine.{Machine}
use Rattle.rv_run.specs.Pages.{memory_of}
use Rattle.rv_run.specs.Step.{Next, goes, ends, traps, step_by, step_of}

abbrev pub program_of : State → Loaded
program_of state = state.memory.code.image.now

abbrev pub machine_of : State → Machine
machine_of state = record {
  pc = state.pc;
  registers = state.registers;
  memory = memory_of state.memory;
  public_bytes = state.public_bytes;
  hints = state.hints;
}

-- this is what a step comes to; only one that goes on changes the state
abbrev pub Comes : Next → Machine → Machine → Stepped → Type 0
Comes next old new Went = next ≡ goes new
Comes next old new (Ended code) = (next ≡ ends code) × (new ≡ old)
Comes next old new (Trapped trap) = (next ≡ traps trap) × (new ≡ old)

-- what a step from the old state did
abbrev pub IsStep : Loaded → Machine → Machine → Stepped → Type 0
IsStep loaded old new stepped = Comes (step_of loaded old) old new stepped

-- what this instruction did
abbrev pub IsStepBy : Instr → Machine → Machine → Stepped → Type 0
IsStepBy instr old new stepped = Comes (step_by old instr) old new stepped
