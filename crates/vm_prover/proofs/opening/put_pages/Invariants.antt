use Rattle.std.proofs.Common.{◌≡◌, take}
use Rattle.page_tree.specs.Kept.{leaves_of}
use Rattle.page_tree.specs.Parts.{with_pages}
use Rattle.vm_prover.proofs.opening.put_pages.Given as goal

abbrev pub invariant-loop-page : goal.invariant-loop-page
invariant-loop-page l = leaves_of l.tree ≡ with_pages (leaves_of l.initial.tree) (take l.page-index l.pages)
