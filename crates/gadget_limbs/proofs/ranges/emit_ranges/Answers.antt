use Rattle.std.proofs.Common.{rules, arith, ◌+◌, [], ◌∷◌, take, drop, ◌++◌, sym, subst}
use Rattle.std.proofs.lemmas.List.{length-take-le}
use Rattle.air_core.specs.ListLemmas.{counted_length}
use Rattle.air_core.specs.Ring.{field}
use Rattle.air_core.specs.Sheet.{counted}
use Rattle.air_core.specs.Sink.{HandedSome}
use Rattle.air_core.proofs.Counted.{on_err_anyway}
use Rattle.air_core.proofs.Handing.{all_some, some_none}
use Rattle.gadget_limbs.specs.Ranges.{range_lines}
use Rattle.gadget_limbs.proofs.RangesSplit.{ranges_split, length-ranges}
use Rattle.gadget_limbs.proofs.ranges.emit_ranges.Goals as goal

pub emit_sent-requires-clause-room : goal.emit_sent-requires-clause-room
emit_sent-requires-clause-room g c =
    let i = c.loop-number.number-index in
    let xs = c.args.numbers.now in
    let done = range_lines field c.args.count c.args.bits (take i xs) in
    omega (arith, c.requires.room, c.loop-number.invariant.used, counted_length done, length-ranges c.args.count c.args.bits (take i xs), length-take-le i xs (omega (arith, c.loop-number-test.true)), c.loop-number-test.true)

pub returns-in_err-emit_sent-clause-err : goal.returns-in_err-emit_sent-clause-err
returns-in_err-emit_sent-clause-err g c =
    let i = c.loop-number.number-index in
    let xs = c.args.numbers.now in
    let sink = g.S.EventSink in
    let done = range_lines field c.args.count c.args.bits (take i xs) in
    let here = range_lines field c.args.count c.args.bits (c.number-item.result ∷ []) in
    let rest = range_lines field c.args.count c.args.bits (drop (i + 1) xs) in
    let split = ranges_split c.args.count c.args.bits xs i c.number-item.result (search rules) c.number-item.is in
    on_err_anyway _ (subst (λ es. HandedSome sink.holds sink.room c.args.sink.now c.emit_sent.new.sink (counted es)) (sym split) (all_some done (here ++ rest) c.loop-number.invariant (some_none here rest c.in_err-emit_sent.ensures.err)))
