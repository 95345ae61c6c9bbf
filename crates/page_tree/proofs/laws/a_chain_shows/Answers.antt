use Rattle.page_tree.proofs.RootLemmas.{chain_shows}
use Rattle.page_tree.proofs.laws.a_chain_shows.Goals as goal

pub returns : goal.returns
returns c = chain_shows
