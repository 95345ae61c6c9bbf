use Rattle.std.proofs.Common.{◌≡◌, ◌+◌, ◌*◌, ◌++◌, length, arith, sym, subst, ◌∙◌}
use Rattle.std.proofs.lemmas.Grind.{get_or_default_zero}
use Rattle.std.specs.Prelude.{OnOk, OnErr}
use Rattle.air_core.specs.Path.{path_lines}
use Rattle.air_core.specs.Ring.{field}
use Rattle.air_core.specs.Sheet.{AllZero, counted}
use Rattle.air_core.specs.Sink.{Handed, HandedSome, handed_none}
use Rattle.air_core.proofs.Counted.{on_err_anyway, on_err_map}
use Rattle.air_core.proofs.Handing.{all_all, all_some, some_none, room_left, on_ok_map}
use Rattle.gadget_time.specs.Form.{parts_of}
use Rattle.gadget_time.specs.Told.{touches_lines}
use Rattle.gadget_time.proofs.Row.{lines_by_parts, flagless, length-path}
use Rattle.gadget_time.proofs.Touches.{length-touches}
use Rattle.gadget_time.proofs.chip.events.Goals as goal

pub returns-then-no_flag-clause-ok : goal.returns-then-no_flag-clause-ok
returns-then-no_flag-clause-ok g c =
    let sink = g.S.EventSink in
    let none = subst AllZero c.flags_of-flags.ensures.is (c.no_flag.ensures c.if-no_flag.true) in
    subst (Handed sink.holds sink.room c.args.sink.now c.args.sink.now) (sym (flagless g.T.TableForm.form g.row.HI g.met.T.TableForm.laws c.args.row.now none)) (handed_none c.args.sink.now)

pub returns-in_err-emit_path-clause-err : goal.returns-in_err-emit_path-clause-err
returns-in_err-emit_path-clause-err g c =
    let f = g.T.TableForm.form in
    let row = c.args.row.now in
    let flags = c.flags_of-flags.result.now in
    let rest = c.rest_of-rest.result.now in
    let pc = c.index-row-0.result in
    let time = c.index-row-1.result in
    let path = path_lines field c.flag_sum.result pc time c.next-next.result c.SLOTS.result c.numbers-numbers.result in
    let accesses = touches_lines field g.row.HI time (f.parts.touches (parts_of pc time flags rest)) in
    let others = f.parts.others (parts_of pc time flags rest) in
    let e : (path ++ accesses) ++ others ≡ _ = lines_by_parts f row flags rest pc time (c.index-row-0.is ∙ get_or_default_zero row 0 pc (omega (arith, c.requires.wide))) (c.index-row-1.is ∙ get_or_default_zero row 1 time (omega (arith, c.requires.wide)))
    c.flags_of-flags.ensures.is c.rest_of-rest.ensures.is g.row.HI c.flag_sum.result c.opcode.result c.next-next.result c.SLOTS.result c.numbers-numbers.result
    c.flag_sum.ensures c.opcode.ensures c.next-next.ensures (c.SLOTS.ensures ∙ sym g.met.T.TableForm.sizes.2) c.numbers-numbers.ensures in
    on_err_anyway _ (subst (λ xs. HandedSome g.S.EventSink.holds g.S.EventSink.room c.args.sink.now c.emit_path.new.sink (counted xs)) e
    (some_none (path ++ accesses) others (some_none path accesses c.in_err-emit_path.ensures.err)))

pub accesses-requires-clause-room : goal.accesses-requires-clause-room
accesses-requires-clause-room g c =
    let f = g.T.TableForm.form in
    let row = c.args.row.now in
    let flags = c.flags_of-flags.result.now in
    let rest = c.rest_of-rest.result.now in
    let pc = c.index-row-0.result in
    let time = c.index-row-1.result in
    let path = path_lines field c.flag_sum.result pc time c.next-next.result c.SLOTS.result c.numbers-numbers.result in
    let accesses = touches_lines field g.row.HI time (f.parts.touches (parts_of pc time flags rest)) in
    let others = f.parts.others (parts_of pc time flags rest) in
    room_left {k = 3} path c.in_ok-emit_path.ensures.ok (omega (arith, length-path c.flag_sum.result pc time c.next-next.result c.SLOTS.result c.numbers-numbers.result))
    (omega (arith, c.requires.room, g.met.T.TableForm.laws.bounds.few (parts_of pc time flags rest)))

pub returns-in_err-accesses-clause-err : goal.returns-in_err-accesses-clause-err
returns-in_err-accesses-clause-err g c =
    let f = g.T.TableForm.form in
    let row = c.args.row.now in
    let flags = c.flags_of-flags.result.now in
    let rest = c.rest_of-rest.result.now in
    let pc = c.index-row-0.result in
    let time = c.index-row-1.result in
    let path = path_lines field c.flag_sum.result pc time c.next-next.result c.SLOTS.result c.numbers-numbers.result in
    let accesses = touches_lines field g.row.HI time (f.parts.touches (parts_of pc time flags rest)) in
    let others = f.parts.others (parts_of pc time flags rest) in
    let e : (path ++ accesses) ++ others ≡ _ = lines_by_parts f row flags rest pc time (c.index-row-0.is ∙ get_or_default_zero row 0 pc (omega (arith, c.requires.wide))) (c.index-row-1.is ∙ get_or_default_zero row 1 time (omega (arith, c.requires.wide)))
    c.flags_of-flags.ensures.is c.rest_of-rest.ensures.is g.row.HI c.flag_sum.result c.opcode.result c.next-next.result c.SLOTS.result c.numbers-numbers.result
    c.flag_sum.ensures c.opcode.ensures c.next-next.ensures (c.SLOTS.ensures ∙ sym g.met.T.TableForm.sizes.2) c.numbers-numbers.ensures in
    on_err_anyway _ (subst (λ xs. HandedSome g.S.EventSink.holds g.S.EventSink.room c.args.sink.now c.accesses.new.sink (counted xs)) e
    (some_none (path ++ accesses) others (all_some path accesses c.in_ok-emit_path.ensures.ok c.in_err-accesses.ensures.err)))

pub others-requires-clause-room : goal.others-requires-clause-room
others-requires-clause-room g c =
    let f = g.T.TableForm.form in
    let row = c.args.row.now in
    let flags = c.flags_of-flags.result.now in
    let rest = c.rest_of-rest.result.now in
    let pc = c.index-row-0.result in
    let time = c.index-row-1.result in
    let path = path_lines field c.flag_sum.result pc time c.next-next.result c.SLOTS.result c.numbers-numbers.result in
    let accesses = touches_lines field g.row.HI time (f.parts.touches (parts_of pc time flags rest)) in
    let others = f.parts.others (parts_of pc time flags rest) in
    let touches = f.parts.touches (parts_of pc time flags rest) in
    room_left {k = 4 * length touches} accesses c.in_ok-accesses.ensures.ok (omega (arith, length-touches g.row.HI time touches))
    (room_left {n = 4 * length touches + length others} {k = 3} path c.in_ok-emit_path.ensures.ok (omega (arith, length-path c.flag_sum.result pc time c.next-next.result c.SLOTS.result c.numbers-numbers.result))
    (omega (arith, c.requires.room, g.met.T.TableForm.laws.bounds.few (parts_of pc time flags rest))))

pub returns-clause-ok : goal.returns-clause-ok
returns-clause-ok g c =
    let f = g.T.TableForm.form in
    let row = c.args.row.now in
    let flags = c.flags_of-flags.result.now in
    let rest = c.rest_of-rest.result.now in
    let pc = c.index-row-0.result in
    let time = c.index-row-1.result in
    let path = path_lines field c.flag_sum.result pc time c.next-next.result c.SLOTS.result c.numbers-numbers.result in
    let accesses = touches_lines field g.row.HI time (f.parts.touches (parts_of pc time flags rest)) in
    let others = f.parts.others (parts_of pc time flags rest) in
    let e : (path ++ accesses) ++ others ≡ _ = lines_by_parts f row flags rest pc time (c.index-row-0.is ∙ get_or_default_zero row 0 pc (omega (arith, c.requires.wide))) (c.index-row-1.is ∙ get_or_default_zero row 1 time (omega (arith, c.requires.wide)))
    c.flags_of-flags.ensures.is c.rest_of-rest.ensures.is g.row.HI c.flag_sum.result c.opcode.result c.next-next.result c.SLOTS.result c.numbers-numbers.result
    c.flag_sum.ensures c.opcode.ensures c.next-next.ensures (c.SLOTS.ensures ∙ sym g.met.T.TableForm.sizes.2) c.numbers-numbers.ensures in
    let front = all_all path accesses c.in_ok-emit_path.ensures.ok c.in_ok-accesses.ensures.ok in
    subst (λ xs. OnOk c.others.result (Handed g.S.EventSink.holds g.S.EventSink.room c.args.sink.now c.others.new.sink (counted xs))) e
    (on_ok_map c.others.result (all_all (path ++ accesses) others front) c.others.ensures.ok)

pub returns-clause-err : goal.returns-clause-err
returns-clause-err g c =
    let f = g.T.TableForm.form in
    let row = c.args.row.now in
    let flags = c.flags_of-flags.result.now in
    let rest = c.rest_of-rest.result.now in
    let pc = c.index-row-0.result in
    let time = c.index-row-1.result in
    let path = path_lines field c.flag_sum.result pc time c.next-next.result c.SLOTS.result c.numbers-numbers.result in
    let accesses = touches_lines field g.row.HI time (f.parts.touches (parts_of pc time flags rest)) in
    let others = f.parts.others (parts_of pc time flags rest) in
    let e : (path ++ accesses) ++ others ≡ _ = lines_by_parts f row flags rest pc time (c.index-row-0.is ∙ get_or_default_zero row 0 pc (omega (arith, c.requires.wide))) (c.index-row-1.is ∙ get_or_default_zero row 1 time (omega (arith, c.requires.wide)))
    c.flags_of-flags.ensures.is c.rest_of-rest.ensures.is g.row.HI c.flag_sum.result c.opcode.result c.next-next.result c.SLOTS.result c.numbers-numbers.result
    c.flag_sum.ensures c.opcode.ensures c.next-next.ensures (c.SLOTS.ensures ∙ sym g.met.T.TableForm.sizes.2) c.numbers-numbers.ensures in
    let front = all_all path accesses c.in_ok-emit_path.ensures.ok c.in_ok-accesses.ensures.ok in
    subst (λ xs. OnErr c.others.result (HandedSome g.S.EventSink.holds g.S.EventSink.room c.args.sink.now c.others.new.sink (counted xs))) e
    (on_err_map c.others.result (all_some (path ++ accesses) others front) c.others.ensures.err)
