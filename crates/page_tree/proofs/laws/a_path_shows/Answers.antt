use Rattle.page_tree.proofs.PathLemmas.{path_shows}
use Rattle.page_tree.proofs.laws.a_path_shows.Goals as goal

pub returns : goal.returns
returns c = path_shows
