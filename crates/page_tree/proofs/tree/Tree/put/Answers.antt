use Rattle.std.proofs.Common.{◌≡◌, ℕ, ap, ◌∙◌}
use Rattle.std.proofs.lemmas.Result.{on_ok_weaker}
use Rattle.page_tree.specs.Kept.{leaves_of, put_at, shown}
use Rattle.page_tree.proofs.tree.Tree.put.Goals as goal

pub returns-clause-ok : goal.returns-clause-ok
unfolding leaves_of
returns-clause-ok c =
    on_ok_weaker c.put.result
    (λ (put : (j : ℕ) → shown 25 0 c.put.new.self j ≡ put_at (shown 25 0 c.self.inside.top) c.args.label c.args.page j) j.
    put j ∙ ap (λ top. put_at (shown 25 0 top) c.args.label c.args.page j) c.self.view_is)
    c.put.ensures.ok
