use Rattle.std.proofs.Common.{◌++◌, ◌∙◌, arith, slice_index}
use Rattle.std.proofs.lemmas.Grind.{get_or_default_zero}
use Rattle.air_core.specs.Ring.{field}
use Rattle.air_core.proofs.Counted.{on_err_anyway, on_err_map}
use Rattle.air_core.proofs.Handing.{all_all, all_some, some_none, room_left, on_ok_map}
use Rattle.gadget_bits.specs.Sum.{sum_lines}
use Rattle.gadget_bits.proofs.SumLaws.{length-sum}
use Rattle.chip_sha_round.specs.Round.{round_row, a_words, e_words, w_words}
use Rattle.chip_sha_round.proofs.events.emit_sums.Goals as goal

pub returns-in_err-emit_sum-clause-err : goal.returns-in_err-emit_sum-clause-err
unfolding round_row
returns-in_err-emit_sum-clause-err g c =
    let r = round_row (slice_index c.args.row.now) in
    let a = sum_lines field r.flag (a_words field r) r.new_a in
    let e = sum_lines field r.flag (e_words field r) r.new_e in
    let w = sum_lines field r.flag (w_words field r) r.new_w in
    let flag = c.index-row-0.is ∙ get_or_default_zero c.args.row.now 0 c.index-row-0.result (omega (arith, c.requires.wide)) in
    on_err_anyway _ (some_none a (e ++ w) (rw (flag, c.a_words.ensures, c.read.ensures) at c.in_err-emit_sum.ensures.err))

pub emit_sum-requires-2 : goal.emit_sum-requires-2
emit_sum-requires-2 g c =
    record { room = room_left {k = 4} (sum_lines field c.index-row-0.result c.a_words.result c.read.result) c.in_ok-emit_sum.ensures.ok (omega (arith, length-sum c.index-row-0.result c.a_words.result c.read.result)) (omega (arith, c.requires.room)) }

pub returns-in_err-emit_sum-2-clause-err : goal.returns-in_err-emit_sum-2-clause-err
unfolding round_row
returns-in_err-emit_sum-2-clause-err g c =
    let r = round_row (slice_index c.args.row.now) in
    let a = sum_lines field r.flag (a_words field r) r.new_a in
    let e = sum_lines field r.flag (e_words field r) r.new_e in
    let w = sum_lines field r.flag (w_words field r) r.new_w in
    let flag = c.index-row-0.is ∙ get_or_default_zero c.args.row.now 0 c.index-row-0.result (omega (arith, c.requires.wide)) in
    on_err_anyway _ (all_some a (e ++ w) (rw (flag, c.a_words.ensures, c.read.ensures) at c.in_ok-emit_sum.ensures.ok)
    (some_none e w (rw (flag, c.e_words.ensures, c.read-2.ensures) at c.in_err-emit_sum-2.ensures.err)))

pub emit_sum-requires-3 : goal.emit_sum-requires-3
emit_sum-requires-3 g c =
    record {
      room = room_left {n = 4} {k = 4} (sum_lines field c.index-row-0.result c.e_words.result c.read-2.result) c.in_ok-emit_sum-2.ensures.ok (omega (arith, length-sum c.index-row-0.result c.e_words.result c.read-2.result))
          (room_left {n = 8} {k = 4} (sum_lines field c.index-row-0.result c.a_words.result c.read.result) c.in_ok-emit_sum.ensures.ok (omega (arith, length-sum c.index-row-0.result c.a_words.result c.read.result)) (omega (arith, c.requires.room)));
    }

pub returns-clause-ok : goal.returns-clause-ok
unfolding round_row
returns-clause-ok g c =
    let r = round_row (slice_index c.args.row.now) in
    let a = sum_lines field r.flag (a_words field r) r.new_a in
    let e = sum_lines field r.flag (e_words field r) r.new_e in
    let w = sum_lines field r.flag (w_words field r) r.new_w in
    let flag = c.index-row-0.is ∙ get_or_default_zero c.args.row.now 0 c.index-row-0.result (omega (arith, c.requires.wide)) in
    let first = rw (flag, c.a_words.ensures, c.read.ensures) at c.in_ok-emit_sum.ensures.ok in
    let second = rw (flag, c.e_words.ensures, c.read-2.ensures) at c.in_ok-emit_sum-2.ensures.ok in
    on_ok_map c.emit_sum-3.result (λ h. all_all a (e ++ w) first (all_all e w second h)) (rw (flag, c.w_words.ensures, c.read-3.ensures) at c.emit_sum-3.ensures.ok)

pub returns-clause-err : goal.returns-clause-err
unfolding round_row
returns-clause-err g c =
    let r = round_row (slice_index c.args.row.now) in
    let a = sum_lines field r.flag (a_words field r) r.new_a in
    let e = sum_lines field r.flag (e_words field r) r.new_e in
    let w = sum_lines field r.flag (w_words field r) r.new_w in
    let flag = c.index-row-0.is ∙ get_or_default_zero c.args.row.now 0 c.index-row-0.result (omega (arith, c.requires.wide)) in
    let first = rw (flag, c.a_words.ensures, c.read.ensures) at c.in_ok-emit_sum.ensures.ok in
    let second = rw (flag, c.e_words.ensures, c.read-2.ensures) at c.in_ok-emit_sum-2.ensures.ok in
    on_err_map c.emit_sum-3.result (λ h. all_some a (e ++ w) first (all_some e w second h)) (rw (flag, c.w_words.ensures, c.read-3.ensures) at c.emit_sum-3.ensures.err)
