use Rattle.page_tree.proofs.RootLemmas.{chain_opens}
use Rattle.page_tree.proofs.laws.a_chain_opens.Goals as goal

pub returns : goal.returns
returns c = chain_opens
