use Rattle.page_tree.proofs.PathLemmas.{climb-path_of}
use Rattle.page_tree.proofs.laws.a_path_leads_to_the_root.Goals as goal

pub returns : goal.returns
returns c = climb-path_of
