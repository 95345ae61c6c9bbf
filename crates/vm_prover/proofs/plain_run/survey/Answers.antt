use Rattle.std.proofs.Common.{◌∙◌, sym, arith}
use Rattle.vm_prover.proofs.Going.{came_to_end, came_to_trap, ended, kind_of_next, past, taken, too_many_steps, trapped, went}
use Rattle.vm_prover.proofs.plain_run.survey.Goals as goal

pub returns-in-Ended : goal.returns-in-Ended
returns-in-Ended c =
    let s = c.loop-steps.invariant in
    let end = came_to_end _ c.loop-steps.state c.step.new.self _ _ s.same c.in_ok-step.ensures.step c.in-Ended.is in
    ended _ _ _ c.loop-steps.cutting _ _ _ _ _ s.cut end.0 (end.1 ∙ sym c.public.ensures) c.in_ok-lengths-in-Ended.ensures s.few

pub returns-in-Trapped : goal.returns-in-Trapped
returns-in-Trapped c =
    let s = c.loop-steps.invariant in
    trapped _ _ _ c.loop-steps.cutting _ _ _ s.cut (came_to_trap _ c.loop-steps.state c.step.new.self _ _ s.same c.in_ok-step.ensures.step c.in-Trapped.is) s.few

pub returns-then-segments-gt-MOST_SEGMENTS : goal.returns-then-segments-gt-MOST_SEGMENTS
returns-then-segments-gt-MOST_SEGMENTS c =
    let s = c.loop-steps.invariant in
    past _ _ _ c.take.new.self _ _
    (taken _ _ _ c.loop-steps.cutting c.take.new.self _ _ _ _ s.cut (went _ c.loop-steps.state c.step.new.self _ s.same c.in_ok-step.ensures.step c.in-Went.is)
    (kind_of_next _ c.loop-steps.state _ _ s.same c.next_instr.ensures.listed c.is_sha_block-block.ensures) c.in_ok-take-in-Went.ensures.taken)
    (omega arith)

pub loop-steps-preserved : goal.loop-steps-preserved
loop-steps-preserved c =
    let s = c.loop-steps.invariant in
    record {
      cut = taken _ _ _ c.loop-steps.cutting c.take.new.self _ _ _ _ s.cut (went _ c.loop-steps.state c.step.new.self _ s.same c.in_ok-step.ensures.step c.in-Went.is)
          (kind_of_next _ c.loop-steps.state _ _ s.same c.next_instr.ensures.listed c.is_sha_block-block.ensures) c.in_ok-take-in-Went.ensures.taken;
      few = omega arith;
      same = c.in_ok-step.ensures.program ∙ s.same;
    }

pub returns : goal.returns
returns c =
    let s = c.loop-steps.invariant in
    absurd (too_many_steps _ _ _ c.loop-steps.cutting _ _ s.cut (omega (arith, c.from.ensures, c.loop-steps-test.false)) c.requires s.few)
