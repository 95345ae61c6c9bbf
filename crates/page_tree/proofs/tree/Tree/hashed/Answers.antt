use Rattle.page_tree.specs.Kept.{leaves_of}
use Rattle.page_tree.proofs.tree.Tree.hashed.Goals as goal

pub returns : goal.returns
unfolding leaves_of
returns c = λ j. c.hash.ensures.same 0 j
