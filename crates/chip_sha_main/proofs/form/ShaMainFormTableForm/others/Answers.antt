use Rattle.std.proofs.Common.{arith, slice_index}
use Rattle.vm_field.specs.Limbs.{list_of}
use Rattle.air_core.specs.Ring.{field}
use Rattle.air_core.proofs.Counted.{on_err_anyway, on_err_map}
use Rattle.air_core.proofs.Handing.{all_all, all_some, some_none, room_left, on_ok_map}
use Rattle.gadget_time.specs.Form.{parts_of}
use Rattle.chip_sha_main.specs.Main.{main_of, main_row, main_ranges, chain_lines, start_words, end_words}
use Rattle.chip_sha_main.specs.lemmas.MainLaws.{long, others_few, length-main_ranges}
use Rattle.chip_sha_main.proofs.form.ShaMainFormTableForm.others.Goals as goal

pub emit_main_ranges-requires-clause-room : goal.emit_main_ranges-requires-clause-room
emit_main_ranges-requires-clause-room g c =
    let parts = parts_of c.args.pc c.args.time c.args.flags.now c.args.rest.now in
    omega (arith, c.requires.room, others_few (main_of field parts) (long parts))

pub returns-in_err-emit_main_ranges-clause-err : goal.returns-in_err-emit_main_ranges-clause-err
unfolding main_ranges chain_lines start_words end_words main_row list_of
returns-in_err-emit_main_ranges-clause-err g c =
    let r = main_of field (parts_of c.args.pc c.args.time c.args.flags.now c.args.rest.now) in
    on_err_anyway _ (some_none (main_ranges field r) (chain_lines field r) (rw c.flag_sum-valid.ensures at c.in_err-emit_main_ranges.ensures.err))

pub emit_chain-requires-clause-room : goal.emit_chain-requires-clause-room
emit_chain-requires-clause-room g c =
    let parts = parts_of c.args.pc c.args.time c.args.flags.now c.args.rest.now in
    room_left {k = 34} (main_ranges field (main_row 0 0 c.flag_sum-valid.result (slice_index c.args.rest.now))) c.in_ok-emit_main_ranges.ensures.ok (omega (arith, length-main_ranges c.flag_sum-valid.result (slice_index c.args.rest.now)))
    (omega (arith, c.requires.room, others_few (main_of field parts) (long parts)))

pub returns-clause-ok : goal.returns-clause-ok
unfolding main_ranges chain_lines start_words end_words main_row list_of
returns-clause-ok g c =
    let r = main_of field (parts_of c.args.pc c.args.time c.args.flags.now c.args.rest.now) in
    on_ok_map c.emit_chain.result (all_all (main_ranges field r) (chain_lines field r) (rw c.flag_sum-valid.ensures at c.in_ok-emit_main_ranges.ensures.ok)) (rw c.flag_sum-valid.ensures at c.emit_chain.ensures.ok)

pub returns-clause-err : goal.returns-clause-err
unfolding main_ranges chain_lines start_words end_words main_row list_of
returns-clause-err g c =
    let r = main_of field (parts_of c.args.pc c.args.time c.args.flags.now c.args.rest.now) in
    on_err_map c.emit_chain.result (all_some (main_ranges field r) (chain_lines field r) (rw c.flag_sum-valid.ensures at c.in_ok-emit_main_ranges.ensures.ok)) (rw c.flag_sum-valid.ensures at c.emit_chain.ensures.err)
