use Rattle.std.proofs.Common.{◌≡◌, ◌+◌, ℕ, arith, ◌∙◌, subst, sym}
use Rattle.rv_run.specs.Run.{Goes}
use Rattle.rv_run.specs.State.{machine_of}
use Rattle.rv_run.proofs.Runs.{goes_by_step}
use Rattle.rv_run.proofs.run.Goals as goal
use Rattle.rv_run.proofs.run.Goals.{else-loop-steps-test, then-loop-steps-test+in_ok-step+in-Went+else-steps-limit}

pub loop-steps-preserved : goal.loop-steps-preserved
loop-steps-preserved c = record {
  reached = goes_by_step _ _ _ c.loop-steps.state c.step.new.self _ c.loop-steps.invariant.reached c.loop-steps.invariant.same c.in_ok-step.ensures.step c.in-Went.is;
  same = c.in_ok-step.ensures.program ∙ c.loop-steps.invariant.same;
}

pub returns : goal.returns
returns c = elim c.loop-steps-test.branch [
  | else-loop-steps-test w ↦ absurd (omega arith)
  | then-loop-steps-test+in_ok-step+in-Went+else-steps-limit w ↦
      let last : c.args.limit ≡ c.loop-steps.steps = omega arith in
      let P : ℕ → Type 0 = λ n. Goes c.args.image.now c.args.hints.items (n + 1) (machine_of w.step.new.self) in
      (machine_of w.step.new.self, subst P (sym last) (goes_by_step _ _ _ c.loop-steps.state w.step.new.self _ c.loop-steps.invariant.reached c.loop-steps.invariant.same w.in_ok-step.ensures.step w.in-Went.is))
]
