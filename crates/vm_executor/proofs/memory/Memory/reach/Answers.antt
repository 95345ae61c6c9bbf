use Rattle.std.proofs.Common.{subst}
use Rattle.vm_executor.specs.Memory.{Kept, KeepsAll}
use Rattle.vm_executor.proofs.KeepLemmas.{keeps_both, same_kept}
use Rattle.vm_executor.proofs.memory.Memory.reach.Goals as goal

pub returns-clause-keeps : goal.returns-clause-keeps
returns-clause-keeps c =
    let loaded = c.self-2.inside.image.now in
    let pages = c.self-2.inside.pages.items in
    let new : Kept = record { loaded = loaded; pages = pages; reached = c.insert.new.self.entries } in
    keeps_both c.args.self.now c.own.new.self new c.in_ok-place.ensures.keeps (subst (λ (k : Kept). KeepsAll k new) c.self-2.view_is (same_kept loaded pages c.self-2.inside.segment.entries c.insert.new.self.entries))
