use Rattle.page_tree.proofs.subtree.Subtree.+lay.Given as goal

abbrev pub decreases-lay : goal.decreases-lay
decreases-lay l = l.top.level
