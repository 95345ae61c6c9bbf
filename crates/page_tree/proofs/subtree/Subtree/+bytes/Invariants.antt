use Rattle.page_tree.proofs.subtree.Subtree.+bytes.Given as goal

abbrev pub decreases-bytes : goal.decreases-bytes
decreases-bytes l = l.top.level
