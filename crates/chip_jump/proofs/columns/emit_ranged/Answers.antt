use Rattle.std.proofs.Common.{rules, arith, [], ◌∷◌, ◌++◌, take, sym, subst}
use Rattle.std.proofs.lemmas.List.{length-take-le}
use Rattle.air_core.specs.ListLemmas.{counted_length}
use Rattle.air_core.specs.Ring.{field}
use Rattle.air_core.specs.Sheet.{counted}
use Rattle.air_core.specs.Sink.{HandedSome}
use Rattle.air_core.proofs.Counted.{on_err_anyway}
use Rattle.air_core.proofs.Handing.{all_some, some_none}
use Rattle.chip_jump.specs.Link.{ranged_lines}
use Rattle.chip_jump.proofs.Lines.{length-ranged, split_at}
use Rattle.chip_jump.proofs.columns.emit_ranged.Goals as goal

pub emit_sent-requires-clause-room : goal.emit_sent-requires-clause-room
emit_sent-requires-clause-room g c =
    let i = c.loop-r.r-index in
    let xs = c.args.numbers.now in
    let done = ranged_lines field c.args.count (take i xs) in
    omega (arith, c.requires.room, c.loop-r.invariant.used, counted_length done, length-ranged c.args.count (take i xs), length-take-le i xs (omega (arith, c.loop-r-test.true)), c.loop-r-test.true)

pub returns-in_err-emit_sent-clause-err : goal.returns-in_err-emit_sent-clause-err
returns-in_err-emit_sent-clause-err g c =
    let i = c.loop-r.r-index in
    let xs = c.args.numbers.now in
    let sink = g.S.EventSink in
    let done = ranged_lines field c.args.count (take i xs) in
    let here = ranged_lines field c.args.count (c.r-item.result ∷ []) in
    let s = split_at c.args.count xs i c.r-item.result (search rules) c.r-item.is in
    on_err_anyway _ (subst (λ es. HandedSome sink.holds sink.room c.args.sink.now c.emit_sent.new.sink (counted es)) (sym s.1) (all_some done (here ++ s.0) c.loop-r.invariant (some_none here s.0 c.in_err-emit_sent.ensures.err)))
