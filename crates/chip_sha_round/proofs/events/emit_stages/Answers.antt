use Rattle.std.proofs.Common.{take, drop, ◌∙◌, arith, slice_index}
use Rattle.std.proofs.lemmas.Grind.{get_or_default_zero}
use Rattle.air_core.specs.Ring.{field}
use Rattle.air_core.proofs.Counted.{on_err_anyway, on_err_map}
use Rattle.air_core.proofs.Handing.{all_all, some_at, some_none, on_ok_map}
use Rattle.gadget_bits.specs.Bits.{halves_at}
use Rattle.chip_sha_round.specs.Round.{round_row, stage_lines}
use Rattle.chip_sha_round.proofs.events.emit_stages.Goals as goal

pub returns-in_err-emit_sent-clause-err : goal.returns-in_err-emit_sent-clause-err
unfolding round_row stage_lines halves_at
returns-in_err-emit_sent-clause-err g c =
    let row = c.args.row.now in
    let lines = stage_lines field (round_row (slice_index row)) in
    let wide = c.requires.wide in
    let flag = c.index-row-0.is ∙ get_or_default_zero row 0 c.index-row-0.result (omega (arith, wide)) in
    let time = c.index-row-1.is ∙ get_or_default_zero row 1 c.index-row-1.result (omega (arith, wide)) in
    let round = c.index-row-2.is ∙ get_or_default_zero row 2 c.index-row-2.result (omega (arith, wide)) in
    let lo = c.index-row-3.is ∙ get_or_default_zero row 3 c.index-row-3.result (omega (arith, wide)) in
    let hi = c.index-row-4.is ∙ get_or_default_zero row 4 c.index-row-4.result (omega (arith, wide)) in
    on_err_anyway _ (some_none (take 1 lines) (drop 1 lines) (rw (flag, round, lo, hi) at c.in_err-emit_sent.ensures.err))

pub returns-in_err-emit_received-clause-err : goal.returns-in_err-emit_received-clause-err
unfolding round_row stage_lines halves_at
returns-in_err-emit_received-clause-err g c =
    let row = c.args.row.now in
    let lines = stage_lines field (round_row (slice_index row)) in
    let wide = c.requires.wide in
    let flag = c.index-row-0.is ∙ get_or_default_zero row 0 c.index-row-0.result (omega (arith, wide)) in
    let time = c.index-row-1.is ∙ get_or_default_zero row 1 c.index-row-1.result (omega (arith, wide)) in
    let round = c.index-row-2.is ∙ get_or_default_zero row 2 c.index-row-2.result (omega (arith, wide)) in
    let lo = c.index-row-3.is ∙ get_or_default_zero row 3 c.index-row-3.result (omega (arith, wide)) in
    let hi = c.index-row-4.is ∙ get_or_default_zero row 4 c.index-row-4.result (omega (arith, wide)) in
    let first = rw (flag, round, lo, hi) at c.in_ok-emit_sent.ensures.ok in
    on_err_anyway _ (some_at 1 lines first (rw (flag, c.stage_tuple-from.ensures, time, round, c.before-2.ensures) at c.in_err-emit_received.ensures.err))

pub returns-clause-ok : goal.returns-clause-ok
unfolding round_row stage_lines halves_at
returns-clause-ok g c =
    let row = c.args.row.now in
    let lines = stage_lines field (round_row (slice_index row)) in
    let wide = c.requires.wide in
    let flag = c.index-row-0.is ∙ get_or_default_zero row 0 c.index-row-0.result (omega (arith, wide)) in
    let time = c.index-row-1.is ∙ get_or_default_zero row 1 c.index-row-1.result (omega (arith, wide)) in
    let round = c.index-row-2.is ∙ get_or_default_zero row 2 c.index-row-2.result (omega (arith, wide)) in
    let lo = c.index-row-3.is ∙ get_or_default_zero row 3 c.index-row-3.result (omega (arith, wide)) in
    let hi = c.index-row-4.is ∙ get_or_default_zero row 4 c.index-row-4.result (omega (arith, wide)) in
    let first = rw (flag, round, lo, hi) at c.in_ok-emit_sent.ensures.ok in
    let second = rw (flag, c.stage_tuple-from.ensures, time, round, c.before-2.ensures) at c.in_ok-emit_received.ensures.ok in
    let both = all_all (take 1 lines) (take 1 (drop 1 lines)) first second in
    on_ok_map c.emit_sent-2.result (all_all (take 2 lines) (take 1 (drop 2 lines)) both) (rw (flag, c.stage_tuple-to.ensures, c.add.ensures, time, round, c.after.ensures) at c.emit_sent-2.ensures.ok)

pub returns-clause-err : goal.returns-clause-err
unfolding round_row stage_lines halves_at
returns-clause-err g c =
    let row = c.args.row.now in
    let lines = stage_lines field (round_row (slice_index row)) in
    let wide = c.requires.wide in
    let flag = c.index-row-0.is ∙ get_or_default_zero row 0 c.index-row-0.result (omega (arith, wide)) in
    let time = c.index-row-1.is ∙ get_or_default_zero row 1 c.index-row-1.result (omega (arith, wide)) in
    let round = c.index-row-2.is ∙ get_or_default_zero row 2 c.index-row-2.result (omega (arith, wide)) in
    let lo = c.index-row-3.is ∙ get_or_default_zero row 3 c.index-row-3.result (omega (arith, wide)) in
    let hi = c.index-row-4.is ∙ get_or_default_zero row 4 c.index-row-4.result (omega (arith, wide)) in
    let first = rw (flag, round, lo, hi) at c.in_ok-emit_sent.ensures.ok in
    let second = rw (flag, c.stage_tuple-from.ensures, time, round, c.before-2.ensures) at c.in_ok-emit_received.ensures.ok in
    let both = all_all (take 1 lines) (take 1 (drop 1 lines)) first second in
    on_err_map c.emit_sent-2.result (some_at 2 lines both) (rw (flag, c.stage_tuple-to.ensures, c.add.ensures, time, round, c.after.ensures) at c.emit_sent-2.ensures.err)
