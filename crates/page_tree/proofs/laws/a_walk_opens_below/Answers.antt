use Rattle.page_tree.proofs.OpeningLemmas.{opens}
use Rattle.page_tree.proofs.laws.a_walk_opens_below.Goals as goal

pub returns : goal.returns
returns c = opens
