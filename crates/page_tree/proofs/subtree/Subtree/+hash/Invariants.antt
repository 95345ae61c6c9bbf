use Rattle.page_tree.proofs.subtree.Subtree.+hash.Given as goal

abbrev pub decreases-hash : goal.decreases-hash
decreases-hash l = l.level
