use Rattle.page_tree.proofs.subtree.+way.Given as goal

abbrev pub decreases-way : goal.decreases-way
decreases-way l = l.top.level
