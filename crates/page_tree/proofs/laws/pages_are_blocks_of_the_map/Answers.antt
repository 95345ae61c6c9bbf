use Rattle.page_tree.proofs.BlockLemmas.{pages_have_old, pages_leave_new}
use Rattle.page_tree.proofs.laws.pages_are_blocks_of_the_map.Goals as goal

pub returns-clause-old : goal.returns-clause-old
returns-clause-old c = pages_have_old

pub returns-clause-new : goal.returns-clause-new
returns-clause-new c = pages_leave_new
