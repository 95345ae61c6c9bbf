use Rattle.std.proofs.Common.{◌≡◌, ℕ, ◌+◌, ◌-◌, List, length, sym, ap, subst, arith}
use Rattle.air_core.specs.declared.event.Event.{Event}
use Rattle.air_core.specs.Sheet.{counted}
use Rattle.air_core.specs.Sink.{Handed, HandedSome, handed_both, some_after, some_of_more}
use Rattle.air_core.proofs.Counted.{on_err_anyway}
use Rattle.offline_memory.specs.Pages.{block_of}
use Rattle.offline_memory.specs.MemoryEvents.{block_events}
use Rattle.offline_memory.proofs.BoundaryLemmas.{events_from, length-events_from, events_more, events_at}
use Rattle.offline_memory.proofs.boundary.boundary_events.Goals as goal

pub hand_counted-requires : goal.hand_counted-requires
hand_counted-requires g c =
    omega (arith, ap length c.block_ends.ensures, c.requires, c.loop-block.invariant.used, length-events_from c.args.page.now 0 c.loop-block.block, c.loop-block-test.true)

pub returns-in_err-hand_counted-clause-err : goal.returns-in_err-hand_counted-clause-err
returns-in_err-hand_counted-clause-err g c =
    let sink = g.S.EventSink in
    let page = c.args.page.now in
    let n = c.loop-block.block in
    let some : HandedSome sink.holds sink.room c.loop-block.sink c.hand_counted.new.sink (block_events (block_of page n)) =
    subst (λ (t : List Event). HandedSome sink.holds sink.room c.loop-block.sink c.hand_counted.new.sink (counted t)) c.block_ends.ensures c.in_err-hand_counted.ensures.err in
    on_err_anyway c.from_residual.result
    (subst (λ (t : List Event). HandedSome sink.holds sink.room c.args.sink.now c.hand_counted.new.sink t) (sym (events_at page n c.loop-block-test.true))
    (some_after c.loop-block.invariant (some_of_more (events_from page (n + 1) (15 - n)) some)))

pub loop-block-preserved : goal.loop-block-preserved
loop-block-preserved g c =
    let sink = g.S.EventSink in
    let page = c.args.page.now in
    let n = c.loop-block.block in
    let both : Handed sink.holds sink.room c.loop-block.sink c.hand_counted.new.sink (block_events (block_of page n)) =
    subst (λ (t : List Event). Handed sink.holds sink.room c.loop-block.sink c.hand_counted.new.sink (counted t)) c.block_ends.ensures c.in_ok-hand_counted.ensures.ok in
    subst (λ (t : List Event). Handed sink.holds sink.room c.args.sink.now c.hand_counted.new.sink t) (sym (events_more page n)) (handed_both c.loop-block.invariant both)

pub returns-clause-ok : goal.returns-clause-ok
returns-clause-ok g c =
    let sink = g.S.EventSink in
    let last : c.loop-block.block ≡ 16 = omega (arith, c.loop-block-test.false, c.loop-block.auto.block-end) in
    subst (λ (k : ℕ). Handed sink.holds sink.room c.args.sink.now c.loop-block.sink (events_from c.args.page.now 0 k)) last c.loop-block.invariant
