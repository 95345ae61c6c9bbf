use Rattle.page_tree.proofs.subtree.Subtree.+digest_at.Given as goal

abbrev pub decreases-digest_at : goal.decreases-digest_at
decreases-digest_at l = l.top.level
