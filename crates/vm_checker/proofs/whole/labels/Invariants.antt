use Rattle.std.proofs.Common.{◌≡◌, map, take}
use Rattle.page_tree.specs.Parts.{label_of}
use Rattle.vm_checker.proofs.whole.labels.Given as goal

-- the labels so far
abbrev pub invariant-loop-page : goal.invariant-loop-page
invariant-loop-page l = l.labels.items ≡ map label_of (take l.page-index l.pages)
