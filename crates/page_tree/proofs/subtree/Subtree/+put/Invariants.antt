use Rattle.page_tree.proofs.subtree.Subtree.+put.Given as goal

abbrev pub decreases-put : goal.decreases-put
decreases-put l = l.top.level
