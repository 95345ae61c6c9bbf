use Rattle.page_tree.proofs.RootLemmas.{opens_tree}
use Rattle.page_tree.proofs.laws.an_opening_opens_the_tree.Goals as goal

pub returns : goal.returns
returns c = opens_tree
