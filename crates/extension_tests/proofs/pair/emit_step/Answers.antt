use Rattle.std.proofs.Common.{◌≡◌, ◌≤◌, [], ◌∷◌, arith}
use Rattle.vm_field.specs.Field.{field_add}
use Rattle.air_core.specs.declared.bus.TheConstants.{FIRST_PRIVATE}
use Rattle.air_core.specs.Path.{path_lines}
use Rattle.air_core.specs.Ring.{field}
use Rattle.air_core.specs.Sheet.{sent}
use Rattle.air_core.proofs.Counted.{on_err_map}
use Rattle.air_core.proofs.Handing.{all_some, room_left}
use Rattle.gadget_time.specs.lemmas.ToldLaws.{path_length}
use Rattle.extension_tests.specs.Pair.{step_lines, step_numbers}
use Rattle.extension_tests.proofs.pair.emit_step.Goals as goal

pub emit_sent-requires-clause-room : goal.emit_sent-requires-clause-room
emit_sent-requires-clause-room g c =
    let a = c.args in
    room_left {n = 1} {k = 3} (path_lines field a.flag a.pc a.time c.add.result 1 c.numbers.result) c.in_ok-emit_path.ensures.ok (omega (arith, path_length a.flag a.pc a.time c.add.result 1 c.numbers.result)) c.requires.room

pub returns-clause-err : goal.returns-clause-err
unfolding step_lines
returns-clause-err g c =
    let a = c.args in
    let path = rw (c.add.ensures, c.numbers.ensures) at c.in_ok-emit_path.ensures.ok in
    on_err_map c.emit_sent.result (all_some (path_lines field a.flag a.pc a.time (field_add a.pc a.x) 1 (step_numbers a.pc a.flag)) (sent FIRST_PRIVATE a.flag (a.x ∷ []) ∷ []) path) c.emit_sent.ensures.err
