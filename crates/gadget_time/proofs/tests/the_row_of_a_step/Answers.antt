use Rattle.std.proofs.Common.{sym, subst, List, refl, lit<}
use Rattle.vm_isa.specs.declared.access.TimedAccess.{TimedAccess}
use Rattle.vm_isa.specs.Means.{Fillable}
use Rattle.vm_isa.proofs.Example.{fence, fence_fillable}
use Rattle.gadget_time.proofs.tests.the_row_of_a_step.Goals as goal

pub fill-requires : goal.fill-requires
fill-requires g c =
    let fillable = subst (λ (xs : List TimedAccess). Fillable 24 (record { instr = fence; time = 1; accesses = xs; next = 4100 })) (sym c.new.ensures) fence_fillable in
    (lit< tt, (refl, (refl, (fillable, lit< tt))))
