use Rattle.std.proofs.Common.{rules, arith, append-nil, drop, ap, sym, ◌∙◌, ◌++◌}
use Rattle.air_core.specs.Sheet.{counted}
use Rattle.air_core.specs.ListLemmas.{counted_length}
use Rattle.air_core.specs.Sink.{handed_both}
use Rattle.air_core.proofs.Counted.{counted_room, counted_split, on_err_anyway}
use Rattle.air_core.proofs.hand.hand_counted.Goals as goal

pub take-requires : goal.take-requires
take-requires g c =
    omega (arith, c.requires, c.loop-event.invariant.used, counted_room c.args.events.now c.loop-event.event-index c.event-item.result c.loop-event-test.true c.event-item.is (search rules), counted_length c.args.events.now)

pub returns-in_err-take-clause-err : goal.returns-in_err-take-clause-err
returns-in_err-take-clause-err g c = on_err_anyway c.from_residual.result (record {
  first = _;
  rest = counted (drop c.loop-event.event-index c.args.events.now);
  are = counted_split c.args.events.now c.loop-event.event-index ∙ ap (λ xs. xs ++ counted (drop c.loop-event.event-index c.args.events.now)) (sym (append-nil _));
  handed = handed_both c.loop-event.invariant c.in_err-take.ensures.err;
})
