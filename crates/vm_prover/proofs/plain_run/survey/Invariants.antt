use Rattle.std.proofs.Common.{◌≡◌, ◌<◌, length}
use Rattle.rv_run.specs.State.{machine_of, program_of}
use Rattle.vm_prover.specs.Cutting.{IsCutSoFar}
use Rattle.vm_prover.proofs.plain_run.survey.Given as goal

abbrev pub invariant-loop-steps : goal.invariant-loop-steps
invariant-loop-steps l = record {
  cut : IsCutSoFar l.image l.fn.hints.items l.per_segment l.cutting l.steps (machine_of l.state);
  few : length l.cutting.closed.items < 4096;
  same : program_of l.state ≡ l.image;
}
