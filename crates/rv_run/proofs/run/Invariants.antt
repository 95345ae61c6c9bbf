use Rattle.std.proofs.Common.{◌≡◌}
use Rattle.rv_run.specs.Run.{Goes}
use Rattle.rv_run.specs.State.{machine_of, program_of}
use Rattle.rv_run.proofs.run.Given as goal

abbrev pub invariant-loop-steps : goal.invariant-loop-steps
invariant-loop-steps l = record {
  reached : Goes l.image l.fn.hints.items l.steps (machine_of l.state);
  same : program_of l.state ≡ l.image;
}
