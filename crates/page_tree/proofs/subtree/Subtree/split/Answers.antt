use Rattle.std.proofs.Common.{◌+◌, ◌-◌, ◌*◌, replicate, refl, sym, ap, ◌∙◌, arith}
use Rattle.std.specs.Prelude.{⊤}
use Rattle.page_tree.specs.Kept.{shown, either_half}
use Rattle.page_tree.specs.declared.subtree.Subtree.TheVariants.{Zeros}
use Rattle.page_tree.proofs.PartLemmas.{level-half}
use Rattle.page_tree.proofs.KeptLemmas.{Stands-joined, Stands-zeros, shown-pair, shown-zeros, half-both}
use Rattle.page_tree.proofs.subtree.Subtree.split.Goals as goal

pub returns-in_ok-new-clause-shape : goal.returns-in_ok-new-clause-shape
returns-in_ok-new-clause-shape c =
    let l = c.args.level in
    let e = c.in_ok-new.ensures.ok in
    Stands-joined (λ digest node. ⊤) l (l - 1) c.in_ok-new.field-0 (level-half l (λ z. omega (arith, c.requires.above))) tt (rw e (Stands-zeros _ (l - 1))) (rw e (Stands-zeros _ (l - 1)))

pub returns-in_ok-new-clause-same : goal.returns-in_ok-new-clause-same
returns-in_ok-new-clause-same c = λ i j.
    let l = c.args.level in
    let half = level-half l (λ z. omega (arith, c.requires.above)) in
    shown-pair l (l - 1) i _ c.in_ok-new.field-0 refl half j
    ∙ ap (λ pair. either_half (l - 1) i (shown (l - 1) (2 * i) pair.left) (shown (l - 1) (2 * i + 1) pair.right) j) c.in_ok-new.ensures.ok
    ∙ half-both (l - 1) i (shown (l - 1) (2 * i) Zeros) (shown (l - 1) (2 * i + 1) Zeros) (replicate 64 0) j (shown-zeros (l - 1) (2 * i) j) (shown-zeros (l - 1) (2 * i + 1) j)
    ∙ sym (ap (λ x. shown l i x j) c.in-Zeros.is ∙ shown-zeros l i j)
