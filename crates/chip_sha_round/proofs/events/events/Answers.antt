use Rattle.std.proofs.Common.{◌∙◌, arith, sym, subst, slice_index}
use Rattle.std.proofs.lemmas.Grind.{get_or_default_zero}
use Rattle.std.proofs.lemmas.Bool.{eqb-true}
use Rattle.air_core.specs.Ring.{field}
use Rattle.air_core.specs.Sink.{Handed, handed_none}
use Rattle.air_core.proofs.Counted.{on_err_anyway, on_err_map}
use Rattle.air_core.proofs.Handing.{all_all, all_some, some_none, room_left, on_ok_map}
use Rattle.chip_sha_round.specs.Round.{round_row, round_lines, sums_lines, stage_lines}
use Rattle.chip_sha_round.specs.lemmas.RoundTable.{round_none, length-sums}
use Rattle.chip_sha_round.proofs.events.events.Goals as goal

pub returns-then-eq-clause-ok : goal.returns-then-eq-clause-ok
unfolding round_row
returns-then-eq-clause-ok g c =
    let flag = c.index-row-0.is ∙ get_or_default_zero c.args.row.now 0 c.index-row-0.result (omega (arith, c.requires.wide)) in
    let none = round_none (round_row (slice_index c.args.row.now)) (sym flag ∙ eqb-true c.index-row-0.result 0 (sym c.eq.ensures ∙ c.if-eq.true)) in
    subst (Handed g.S.EventSink.holds g.S.EventSink.room c.args.sink.now c.args.sink.now) (sym none) (handed_none c.args.sink.now)

pub returns-in_err-emit_sums-clause-err : goal.returns-in_err-emit_sums-clause-err
unfolding round_lines
returns-in_err-emit_sums-clause-err g c =
    let r = round_row (slice_index c.args.row.now) in
    on_err_anyway _ (some_none (sums_lines field r) (stage_lines field r) c.in_err-emit_sums.ensures.err)

pub emit_stages-requires-clause-room : goal.emit_stages-requires-clause-room
emit_stages-requires-clause-room g c =
    let r = round_row (slice_index c.args.row.now) in
    room_left {k = 12} (sums_lines field r) c.in_ok-emit_sums.ensures.ok (omega (arith, length-sums r)) (omega (arith, c.requires.room))

pub returns-clause-ok : goal.returns-clause-ok
unfolding round_lines
returns-clause-ok g c =
    let r = round_row (slice_index c.args.row.now) in
    on_ok_map c.emit_stages.result (all_all (sums_lines field r) (stage_lines field r) c.in_ok-emit_sums.ensures.ok) c.emit_stages.ensures.ok

pub returns-clause-err : goal.returns-clause-err
unfolding round_lines
returns-clause-err g c =
    let r = round_row (slice_index c.args.row.now) in
    on_err_map c.emit_stages.result (all_some (sums_lines field r) (stage_lines field r) c.in_ok-emit_sums.ensures.ok) c.emit_stages.ensures.err
