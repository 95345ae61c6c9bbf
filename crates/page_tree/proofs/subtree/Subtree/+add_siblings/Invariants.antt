use Rattle.page_tree.proofs.subtree.Subtree.+add_siblings.Given as goal

abbrev pub decreases-add_siblings : goal.decreases-add_siblings
decreases-add_siblings l = l.top.level
