use Rattle.std.proofs.Common.{[], ◌∷◌}
use Rattle.air_core.specs.Sheet.{received, sent}
use Rattle.air_core.specs.Path.{path_lines}
use Rattle.vm_field.specs.Field.{field_add}
use Rattle.air_core.proofs.Counted.{on_err_anyway, on_err_map}
use Rattle.air_core.proofs.Handing.{all_all, some_at}
use Rattle.air_core.proofs.emission.emit_path.Goals as goal
use Rattle.air_core.specs.Ring.{field}
use Rattle.air_core.specs.declared.bus.TheConstants.{EXECUTION}

pub returns-in_err-emit_sent-clause-err : goal.returns-in_err-emit_sent-clause-err
unfolding path_lines
returns-in_err-emit_sent-clause-err g c =
    let a = c.args in
    let here = rw (c.add.ensures, c.of_u16.ensures) at c.in_err-emit_sent.ensures.err in
    on_err_anyway _ (some_at 1 (path_lines field a.valid a.pc a.time a.next a.slots a.numbers.now) c.in_ok-emit_received.ensures.ok here)

pub returns-clause-err : goal.returns-clause-err
unfolding path_lines
returns-clause-err g c =
    let a = c.args in
    let second = rw (c.add.ensures, c.of_u16.ensures) at c.in_ok-emit_sent.ensures.ok in
    let both = all_all (received EXECUTION a.valid (a.pc ∷ a.time ∷ []) ∷ []) (sent EXECUTION a.valid (a.next ∷ field_add a.time a.slots ∷ []) ∷ []) c.in_ok-emit_received.ensures.ok second in
    on_err_map c.emit_sent-2.result (some_at 2 (path_lines field a.valid a.pc a.time a.next a.slots a.numbers.now) both) c.emit_sent-2.ensures.err
