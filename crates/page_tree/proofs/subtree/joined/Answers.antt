use Rattle.std.proofs.Common.{◌+◌, ◌*◌, ◌++◌, refl, ap, ◌∙◌}
use Rattle.sha2.specs.Sha256.{sha256}
use Rattle.page_tree.specs.Kept.{digest_of, shown, either_half}
use Rattle.page_tree.proofs.KeptLemmas.{Stands-joined, shown-pair}
use Rattle.page_tree.proofs.subtree.joined.Goals as goal

pub returns-clause-kept : goal.returns-clause-kept
returns-clause-kept c =
    let l = c.args.level in
    let e = c.in_ok-new.ensures.ok in
    let digest = c.pair_digest-digest.ensures ∙ ap (λ x. sha256 (x ++ c.digest-2.result)) c.digest.ensures ∙ ap (λ x. sha256 (digest_of l c.args.left ++ x)) c.digest-2.ensures in
    Stands-joined _ (l + 1) l c.in_ok-new.field-0 refl (rw e digest) (rw e c.requires.left) (rw e c.requires.right)

pub returns-clause-shown : goal.returns-clause-shown
returns-clause-shown c = λ i j.
    let l = c.args.level in
    shown-pair (l + 1) l i _ c.in_ok-new.field-0 refl refl j
    ∙ ap (λ pair. either_half l i (shown l (2 * i) pair.left) (shown l (2 * i + 1) pair.right) j) c.in_ok-new.ensures.ok
