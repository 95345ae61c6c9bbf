use Rattle.std.proofs.Common.{take, drop}
use Rattle.gadget_time.specs.Told.{touch_lines}
use Rattle.air_core.proofs.Counted.{on_err_anyway, on_err_map}
use Rattle.air_core.proofs.Handing.{all_all, some_at}
use Rattle.gadget_time.proofs.emission.emit_touch.Goals as goal
use Rattle.air_core.specs.Ring.{field}

pub returns-in_err-emit_sent-clause-err : goal.returns-in_err-emit_sent-clause-err
unfolding touch_lines
returns-in_err-emit_sent-clause-err g c =
    let lines = touch_lines field c.args.hi c.args.time c.args.touch.now in
    let first = rw (c.block-taken.ensures) at c.in_ok-emit_received.ensures.ok in
    let here = rw (c.block-put.ensures, c.add-at.ensures) at c.in_err-emit_sent.ensures.err in
    on_err_anyway _ (some_at 1 lines first here)

pub returns-in_err-emit_sent-2-clause-err : goal.returns-in_err-emit_sent-2-clause-err
unfolding touch_lines
returns-in_err-emit_sent-2-clause-err g c =
    let lines = touch_lines field c.args.hi c.args.time c.args.touch.now in
    let first = rw (c.block-taken.ensures) at c.in_ok-emit_received.ensures.ok in
    let second = rw (c.block-put.ensures, c.add-at.ensures) at c.in_ok-emit_sent.ensures.ok in
    let both = all_all (take 1 lines) (take 1 (drop 1 lines)) first second in
    let here = rw (c.of_u16.ensures) at c.in_err-emit_sent-2.ensures.err in
    on_err_anyway _ (some_at 2 lines both here)

pub returns-clause-err : goal.returns-clause-err
unfolding touch_lines
returns-clause-err g c =
    let lines = touch_lines field c.args.hi c.args.time c.args.touch.now in
    let first = rw (c.block-taken.ensures) at c.in_ok-emit_received.ensures.ok in
    let second = rw (c.block-put.ensures, c.add-at.ensures) at c.in_ok-emit_sent.ensures.ok in
    let both = all_all (take 1 lines) (take 1 (drop 1 lines)) first second in
    let third = rw (c.of_u16.ensures) at c.in_ok-emit_sent-2.ensures.ok in
    let three = all_all (take 2 lines) (take 1 (drop 2 lines)) both third in
    let here = rw (c.of_u16-2.ensures) at c.emit_sent-3.ensures.err in
    on_err_map c.emit_sent-3.result (some_at 3 lines three) here
