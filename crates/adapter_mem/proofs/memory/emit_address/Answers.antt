use Rattle.std.proofs.Common.{[], ◌∷◌}
use Rattle.air_core.proofs.Counted.{on_err_map}
use Rattle.air_core.proofs.Handing.{all_some}
use Rattle.air_core.specs.Ring.{field}
use Rattle.gadget_limbs.specs.Ranges.{range_lines}
use Rattle.adapter_mem.specs.Pointer.{part}
use Rattle.adapter_mem.proofs.memory.emit_address.Goals as goal

pub returns-clause-err : goal.returns-clause-err
returns-clause-err g c =
    let m = c.args.m.now in
    let a = range_lines field c.args.valid 14 (part field 1509949441 m.low c.args.shift ∷ []) in
    let b = range_lines field c.args.valid 13 (m.high ∷ []) in
    on_err_map c.emit_ranges-2.result (λ h. all_some a b (rw (c.part-quarter.ensures, c.element.ensures, c.of_u16.ensures) at c.in_ok-emit_ranges.ensures.ok) (rw c.of_u16-2.ensures at h)) c.emit_ranges-2.ensures.err
