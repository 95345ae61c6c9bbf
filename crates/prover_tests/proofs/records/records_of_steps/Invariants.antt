use Rattle.std.proofs.Common.{◌≡◌}
use Rattle.vm_executor.specs.State.{machine_of, program_of}
use Rattle.prover_tests.specs.TookSteps.{TookSteps}
use Rattle.prover_tests.proofs.records.records_of_steps.Given as goal

-- the records of the steps so far
abbrev pub invariant-loop-step : goal.invariant-loop-step
invariant-loop-step l = record {
  taken : TookSteps (program_of l.fn.machine) (machine_of l.fn.machine).pc l.step l.records.items (machine_of l.machine);
  same : program_of l.machine ≡ program_of l.fn.machine;
}
