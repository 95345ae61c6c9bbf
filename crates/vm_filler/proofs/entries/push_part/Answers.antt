use Rattle.std.proofs.Common.{◌<◌, length, refl, ◌∙◌, rules, arith}
use Rattle.vm_filler.proofs.PushLemmas.{push_some, push_none}
use Rattle.vm_filler.proofs.entries.push_part.Goals as goal
use Rattle.vm_filler.proofs.entries.push_part.Goals.{then-count-ne0+in_ok-push_count, else-count-ne0}

pub loop-place-init : goal.loop-place-init
loop-place-init c = λ before stood. stood

pub loop-place-preserved : goal.loop-place-preserved
loop-place-preserved c = λ before stood.
    let put = c.loop-place.invariant before stood in
    let low : c.loop-place.place < length c.args.counts.now = omega (arith, c.loop-place-test.true, c.requires.within) in
    elim c.if-count-ne0.branch [
      | then-count-ne0+in_ok-push_count w ↦ w.tables-is ∙ push_some before c.loop-place.tables w.push_count.new.self c.args.list c.args.counts.now c.loop-place.place _ low refl (search rules) put w.in_ok-push_count.ensures.ok
      | else-count-ne0 w ↦ w.tables-is ∙ push_none before c.loop-place.tables c.args.list c.args.counts.now c.loop-place.place _ low refl (search rules) put
    ]
