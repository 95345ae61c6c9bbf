use Rattle.std.proofs.Common.{take, drop}
use Rattle.air_core.proofs.Counted.{on_err_anyway, on_err_map}
use Rattle.air_core.proofs.Handing.{all_all, some_at}
use Rattle.air_core.specs.Ring.{field}
use Rattle.gadget_bits.specs.Sum.{sum_lines}
use Rattle.gadget_bits.proofs.sum.emit_sum.Goals as goal

pub returns-in_err-emit_sent-2-clause-err : goal.returns-in_err-emit_sent-2-clause-err
unfolding sum_lines
returns-in_err-emit_sent-2-clause-err g c =
    let lines = sum_lines field c.args.count c.args.words.now c.args.out.now in
    let first = rw (c.low_carry-low.ensures, c.of_u16.ensures) at c.in_ok-emit_sent.ensures.ok in
    let here = rw (c.high_carry-high.ensures, c.of_u16-2.ensures) at c.in_err-emit_sent-2.ensures.err in
    on_err_anyway _ (some_at 1 lines first here)

pub returns-in_err-emit_sent-3-clause-err : goal.returns-in_err-emit_sent-3-clause-err
unfolding sum_lines
returns-in_err-emit_sent-3-clause-err g c =
    let lines = sum_lines field c.args.count c.args.words.now c.args.out.now in
    let first = rw (c.low_carry-low.ensures, c.of_u16.ensures) at c.in_ok-emit_sent.ensures.ok in
    let second = rw (c.high_carry-high.ensures, c.of_u16-2.ensures) at c.in_ok-emit_sent-2.ensures.ok in
    let both = all_all (take 1 lines) (take 1 (drop 1 lines)) first second in
    let here = rw (c.of_u16-3.ensures) at c.in_err-emit_sent-3.ensures.err in
    on_err_anyway _ (some_at 2 lines both here)

pub returns-clause-err : goal.returns-clause-err
unfolding sum_lines
returns-clause-err g c =
    let lines = sum_lines field c.args.count c.args.words.now c.args.out.now in
    let first = rw (c.low_carry-low.ensures, c.of_u16.ensures) at c.in_ok-emit_sent.ensures.ok in
    let second = rw (c.high_carry-high.ensures, c.of_u16-2.ensures) at c.in_ok-emit_sent-2.ensures.ok in
    let both = all_all (take 1 lines) (take 1 (drop 1 lines)) first second in
    let third = rw (c.of_u16-3.ensures) at c.in_ok-emit_sent-3.ensures.ok in
    let three = all_all (take 2 lines) (take 1 (drop 2 lines)) both third in
    let here = rw (c.of_u16-4.ensures) at c.emit_sent-4.ensures.err in
    on_err_map c.emit_sent-4.result (some_at 3 lines three) here
