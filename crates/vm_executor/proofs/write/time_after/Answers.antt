use Rattle.std.proofs.Common.{List, ap, ◌∙◌, sym, take, arith}
use Rattle.vm_isa.specs.declared.access.TimedAccess.{TimedAccess}
use Rattle.vm_executor.specs.Machine.{times_after}
use Rattle.vm_executor.proofs.WriteLemmas.{get_some, take_one, time_elsewhere, time_there}
use Rattle.vm_executor.proofs.write.time_after.Goals as goal
use Rattle.vm_executor.proofs.write.time_after.Goals.{in-Some+then-earlier-block+then-earlier-block-2, in-Some+else-earlier-block, else-earlier-block-via-then-earlier-block+else-earlier-block-2, else-earlier-block-via-else-earlier-block, in_default}

pub loop-place-preserved : goal.loop-place-preserved
loop-place-preserved c = λ times h.
    let s = c.args.block.now.space in
    let p = c.args.block.now.pointer in
    let made = c.args.made.now in
    let place = c.loop-place.place in
    let was = c.loop-place.invariant times h in
    elim c.match-at.branch [
      | in-Some+then-earlier-block+then-earlier-block-2 w ↦
          ap (λ (xs : List TimedAccess). times_after times xs s p) (take_one made place w.in-Some.earlier (sym w.in-Some.ensures))
          ∙ time_there times (take place made) w.in-Some.earlier s p c.loop-place.last was w.if-earlier-block.true w.if-earlier-block-2.true ∙ sym w.last-is
      | in-Some+else-earlier-block w ↦
          ap (λ (xs : List TimedAccess). times_after times xs s p) (take_one made place w.in-Some.earlier (sym w.in-Some.ensures))
          ∙ time_elsewhere times (take place made) w.in-Some.earlier s p c.loop-place.last was
          (λ space pointer. elim w.else-earlier-block.branch [
            | else-earlier-block-via-then-earlier-block+else-earlier-block-2 w' ↦ w'.if-earlier-block-2.false pointer
            | else-earlier-block-via-else-earlier-block w' ↦ w'.if-earlier-block.false space
          ])
          ∙ sym w.last-is
      | in_default w ↦ (let there = get_some made place (omega (arith, c.loop-place-test.true, c.len-place-end.ensures)) in absurd (w.in_default.not-Some there.0 (c.at.ensures ∙ there.1)))
    ]
