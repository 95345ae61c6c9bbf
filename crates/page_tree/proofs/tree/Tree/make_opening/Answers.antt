use Rattle.std.proofs.Common.{◌++◌, ap, ◌∙◌}
use Rattle.page_tree.specs.Opening.{siblings_of, siblings_below}
use Rattle.page_tree.specs.Kept.{leaves_of, shown}
use Rattle.page_tree.proofs.tree.Tree.make_opening.Goals as goal

pub returns : goal.returns
unfolding siblings_of leaves_of
returns c =
    c.in_ok-add_siblings.ensures
    ∙ ap (λ xs. xs ++ siblings_below (shown 25 0 c.self.inside.top) c.args.labels.now 25 0) c.new-siblings.ensures.items
    ∙ ap (λ top. siblings_below (shown 25 0 top) c.args.labels.now 25 0) c.self.view_is
