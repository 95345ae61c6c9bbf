use Rattle.std.proofs.Common.{◌≡◌, ℕ}
use Rattle.air_core.specs.System.{System}
use Rattle.vm_executor.specs.State.{machine_of, program_of}
use Rattle.vm_prover.specs.Segments.{AreTaken, GoesOnFor, Run}
use Rattle.vm_prover.proofs.records.take_records.Given as goal

abbrev pub invariant-loop-number : goal.invariant-loop-number
invariant-loop-number l = record {
  taken : (x : System) (run : Run x) (steps : ℕ) → GoesOnFor run (program_of l.fn.machine) (machine_of l.fn.machine) steps l.count → AreTaken run (machine_of l.fn.machine) steps l.number l.records.items (machine_of l.machine);
  same : program_of l.machine ≡ program_of l.fn.machine;
}
