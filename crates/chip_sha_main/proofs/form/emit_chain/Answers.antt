use Rattle.std.proofs.Common.{take, drop, slice_index}
use Rattle.air_core.specs.Ring.{field}
use Rattle.air_core.proofs.Counted.{on_err_anyway, on_err_map}
use Rattle.air_core.proofs.Handing.{all_all, some_at, some_none, on_ok_map}
use Rattle.chip_sha_main.specs.Main.{main_row, chain_lines, start_words, end_words}
use Rattle.chip_sha_main.proofs.form.emit_chain.Goals as goal

pub returns-in_err-emit_sent-clause-err : goal.returns-in_err-emit_sent-clause-err
unfolding chain_lines start_words main_row
returns-in_err-emit_sent-clause-err g c =
    let lines = chain_lines field (main_row 0 c.args.time c.args.valid (slice_index c.args.rest.now)) in
    on_err_anyway _ (some_none (take 1 lines) (drop 1 lines) (rw (c.stage_tuple-start.ensures, c.start_words.ensures) at c.in_err-emit_sent.ensures.err))

pub returns-clause-ok : goal.returns-clause-ok
unfolding chain_lines start_words end_words main_row
returns-clause-ok g c =
    let lines = chain_lines field (main_row 0 c.args.time c.args.valid (slice_index c.args.rest.now)) in
    let first = rw (c.stage_tuple-start.ensures, c.start_words.ensures) at c.in_ok-emit_sent.ensures.ok in
    on_ok_map c.emit_received.result (all_all (take 1 lines) (take 1 (drop 1 lines)) first) (rw (c.stage_tuple-end.ensures, c.of_u16.ensures, c.end_words.ensures) at c.emit_received.ensures.ok)

pub returns-clause-err : goal.returns-clause-err
unfolding chain_lines start_words end_words main_row
returns-clause-err g c =
    let lines = chain_lines field (main_row 0 c.args.time c.args.valid (slice_index c.args.rest.now)) in
    let first = rw (c.stage_tuple-start.ensures, c.start_words.ensures) at c.in_ok-emit_sent.ensures.ok in
    on_err_map c.emit_received.result (some_at 1 lines first) (rw (c.stage_tuple-end.ensures, c.of_u16.ensures, c.end_words.ensures) at c.emit_received.ensures.err)
