use Rattle.page_tree.proofs.WalkLemmas.{walk-left}
use Rattle.page_tree.proofs.laws.a_walk_takes_what_it_needs.Goals as goal

pub returns : goal.returns
returns c = walk-left
