use Rattle.std.proofs.Common.{◌≡◌, take}
use Rattle.page_tree.specs.Parts.{labels_of}
use Rattle.page_tree.proofs.tests.plain.pages_of.Given as goal

-- the pages so far are those of the labels so far
abbrev pub invariant-loop-label : goal.invariant-loop-label
invariant-loop-label l = labels_of l.pages.items ≡ take l.label-index l.labels
