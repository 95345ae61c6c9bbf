use Rattle.air_core.proofs.Counted.{on_err_anyway, on_err_map}
use Rattle.air_core.proofs.Handing.{all_all, all_some, some_none, on_ok_map}
use Rattle.air_core.specs.Flags.{sum_from}
use Rattle.air_core.specs.Ring.{field}
use Rattle.adapter_mem.specs.Forms.{shift_by}
use Rattle.adapter_mem.specs.Memory.{address_lines}
use Rattle.adapter_mem.proofs.form.MemoryFormTableForm.others.Goals as goal

pub returns-in_err-emit_address-clause-err : goal.returns-in_err-emit_address-clause-err
returns-in_err-emit_address-clause-err g c =
    let t = g.C.MemoryCore.table in
    let m = t.parts.read c.args.rest.now in
    let valid = sum_from field 0 c.args.flags.now in
    let a = address_lines field valid (shift_by field t.forms c.args.flags.now) m in
    let b = t.parts.lookups valid c.args.flags.now m in
    on_err_anyway _ (some_none a b (rw (c.flag_sum-valid.ensures, c.shift.ensures, c.read-m.ensures) at c.in_err-emit_address.ensures.err))

pub returns-clause-ok : goal.returns-clause-ok
returns-clause-ok g c =
    let t = g.C.MemoryCore.table in
    let m = t.parts.read c.args.rest.now in
    let valid = sum_from field 0 c.args.flags.now in
    let a = address_lines field valid (shift_by field t.forms c.args.flags.now) m in
    let b = t.parts.lookups valid c.args.flags.now m in
    on_ok_map c.lookups.result (λ h. all_all a b (rw (c.flag_sum-valid.ensures, c.shift.ensures, c.read-m.ensures) at c.in_ok-emit_address.ensures.ok) (rw (c.flag_sum-valid.ensures, c.read-m.ensures) at h)) c.lookups.ensures.ok

pub returns-clause-err : goal.returns-clause-err
returns-clause-err g c =
    let t = g.C.MemoryCore.table in
    let m = t.parts.read c.args.rest.now in
    let valid = sum_from field 0 c.args.flags.now in
    let a = address_lines field valid (shift_by field t.forms c.args.flags.now) m in
    let b = t.parts.lookups valid c.args.flags.now m in
    on_err_map c.lookups.result (λ h. all_some a b (rw (c.flag_sum-valid.ensures, c.shift.ensures, c.read-m.ensures) at c.in_ok-emit_address.ensures.ok) (rw (c.flag_sum-valid.ensures, c.read-m.ensures) at h)) c.lookups.ensures.err
