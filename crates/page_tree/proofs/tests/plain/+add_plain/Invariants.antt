use Rattle.page_tree.proofs.tests.plain.+add_plain.Given as goal

abbrev pub decreases-add_plain : goal.decreases-add_plain
decreases-add_plain l = l.level
