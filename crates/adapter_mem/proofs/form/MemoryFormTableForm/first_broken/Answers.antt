use Rattle.std.proofs.Common.{sym}
use Rattle.adapter_mem.proofs.MemoryParts.{first_address}
use Rattle.adapter_mem.proofs.form.MemoryFormTableForm.first_broken.Goals as goal

pub returns : goal.returns
returns g c =
    let t = g.C.MemoryCore.table in
    let m = t.parts.read c.args.rest.now in
    rw (c.first.ensures, c.first_nonzero-address.ensures, c.address_constraints.ensures, c.first_broken-own.ensures, c.read-m.ensures) (sym (first_address c.args.from m (t.parts.constraints c.args.flags.now m)))
