use Rattle.page_tree.proofs.tests.plain.+plain_digest.Given as goal

abbrev pub decreases-plain_digest : goal.decreases-plain_digest
decreases-plain_digest l = l.level
