use Rattle.std.proofs.Common.{ℕ, List, [], ap, ◌∙◌}
use Rattle.vm_isa.specs.Blocks.{Blocks}
use Rattle.vm_transpile.specs.Start.{start_blocks}
use Rattle.vm_executor.specs.Machine.{Machine}
use Rattle.vm_executor.specs.Pages.{Times}
use Rattle.vm_executor.specs.Memory.{Kept, now_of, began_of, times_of}
use Rattle.vm_executor.proofs.KeepLemmas.{none_kept, never_kept}
use Rattle.vm_executor.proofs.machine.Machine.new.Goals as goal

pub returns-clause-start : goal.returns-clause-start
returns-clause-start c =
    let loaded = c.args.image.now in
    let make : ℕ → List ℕ → Blocks → Blocks → Times → Machine = λ pc hints now start times. record { pc = pc; time = 1; hints = hints; now = now; start = start; times = times } in
    let none : Kept = record { loaded = loaded; pages = []; reached = [] } in
    ap (λ (pc : ℕ). make pc c.new.result (now_of c.new-2.result) (began_of c.new-2.result) (times_of c.new-2.result)) c.entry.ensures
    ∙ ap (λ (hints : List ℕ). make loaded.entry hints (now_of c.new-2.result) (began_of c.new-2.result) (times_of c.new-2.result)) c.new.ensures
    ∙ ap (λ (k : Kept). make loaded.entry c.args.hints.items (now_of k) (began_of k) (times_of k)) c.new-2.ensures
    ∙ ap (λ (b : Blocks). make loaded.entry c.args.hints.items b (began_of none) (times_of none)) (none_kept loaded [] (λ page. page.new))
    ∙ ap (λ (b : Blocks). make loaded.entry c.args.hints.items (start_blocks loaded) b (times_of none)) (none_kept loaded [] (λ page. page.old))
    ∙ ap (make loaded.entry c.args.hints.items (start_blocks loaded) (start_blocks loaded)) (never_kept loaded [])
