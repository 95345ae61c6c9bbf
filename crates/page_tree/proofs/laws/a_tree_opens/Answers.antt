use Rattle.page_tree.proofs.CompleteLemmas.{is_complete}
use Rattle.page_tree.proofs.laws.a_tree_opens.Goals as goal

pub returns : goal.returns
returns c = is_complete
