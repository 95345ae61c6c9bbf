use Rattle.std.proofs.Common.{◌+◌, length, length-append, ap, ◌∙◌}
use Rattle.air_core.specs.Ring.{field}
use Rattle.adapter_mem.specs.Memory.{address_constraints}
use Rattle.adapter_mem.proofs.MemoryParts.{length-address}
use Rattle.adapter_mem.proofs.form.MemoryFormTableForm.constraints.Goals as goal

pub returns-clause-number : goal.returns-clause-number
returns-clause-number g c flags rest pc time flags_long rest_long =
    let t = g.C.MemoryCore.table in
    let m = t.parts.read rest in
    length-append (address_constraints field m) (t.parts.constraints flags m) ∙ ap (λ k. k + length (t.parts.constraints flags m)) (length-address m) ∙ ap (λ k. 2 + k) (c.constraints-own.ensures.number flags m flags_long)
