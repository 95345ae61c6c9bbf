use Rattle.std.proofs.Common.{rules, arith, ◌+◌, take, drop, ◌++◌, sym, subst}
use Rattle.air_core.specs.Sheet.{counted}
use Rattle.air_core.specs.Sink.{HandedSome}
use Rattle.air_core.specs.ListLemmas.{counted_length}
use Rattle.std.proofs.lemmas.List.{length-take-le}
use Rattle.gadget_time.specs.Told.{touch_lines, touches_lines}
use Rattle.air_core.proofs.Counted.{on_err_anyway}
use Rattle.air_core.proofs.Handing.{all_some, some_none}
use Rattle.gadget_time.proofs.Touches.{touches_split, length-touches}
use Rattle.gadget_time.proofs.emission.emit_touches.Goals as goal
use Rattle.air_core.specs.Ring.{field}

pub emit_touch-requires-clause-room : goal.emit_touch-requires-clause-room
emit_touch-requires-clause-room g c =
    let i = c.loop-touch.touch-index in
    let touches = c.args.touches.now in
    let done = touches_lines field c.args.hi c.args.time (take i touches) in
    omega (arith, c.requires.room, c.loop-touch.invariant.used, counted_length done, length-touches c.args.hi c.args.time (take i touches), length-take-le i touches (omega (arith, c.loop-touch-test.true)), c.loop-touch-test.true)

pub returns-in_err-emit_touch-clause-err : goal.returns-in_err-emit_touch-clause-err
returns-in_err-emit_touch-clause-err g c =
    let i = c.loop-touch.touch-index in
    let touches = c.args.touches.now in
    let sink = g.S.EventSink in
    let done = touches_lines field c.args.hi c.args.time (take i touches) in
    let here = touch_lines field c.args.hi c.args.time c.touch-item.result in
    let rest = touches_lines field c.args.hi c.args.time (drop (i + 1) touches) in
    let split = touches_split c.args.hi c.args.time touches i c.touch-item.result (search rules) c.touch-item.is in
    on_err_anyway _ (subst (λ xs. HandedSome sink.holds sink.room c.args.sink.now c.emit_touch.new.sink (counted xs)) (sym split) (all_some done (here ++ rest) c.loop-touch.invariant (some_none here rest c.in_err-emit_touch.ensures.err)))
