use Rattle.std.proofs.Common.{◌≡◌, ℕ, ◌+◌, ◌-◌, ◌*◌, ◌^◌, ◌<◌, ◌≤◌, cond, eqb, replicate, refl, sym, ap, ◌∙◌, arith}
use Rattle.page_tree.specs.Kept.{shown, either_half, put_at}
use Rattle.page_tree.specs.declared.subtree.Subtree.TheVariants.{Zeros}
use Rattle.page_tree.proofs.PartLemmas.{level-half, in_tree-half}
use Rattle.page_tree.proofs.KeptLemmas.{Stands-one, Stands-zeros, shown-leaf, leaf-put_zeros, below-at_leaf, below-lower, below-upper, half-put_left, half-put_right, half-both, shown-zeros, put_at-same, if_ok-map}
use Rattle.page_tree.proofs.subtree.+way.Goals as goal

pub returns-then-top-eq0-clause-kept : goal.returns-then-top-eq0-clause-kept
returns-then-top-eq0-clause-kept t c =
    Stands-one _ c.args.top.level c.in_ok-new.field-0 c.if-top-eq0.true (rw c.in_ok-new.ensures.ok c.leaf_digest.ensures)

pub returns-then-top-eq0-clause-ok : goal.returns-then-top-eq0-clause-ok
returns-then-top-eq0-clause-ok t c = λ j.
    let l = c.args.top.level in
    let i = c.args.top.index in
    let leaf = c.in_ok-new.field-0 in
    shown-leaf l i _ leaf refl c.if-top-eq0.true j
    ∙ ap (λ x. cond (eqb i j) x (replicate 64 0)) (ap (λ x. x.bytes) c.in_ok-new.ensures.ok)
    ∙ leaf-put_zeros l i c.args.label c.args.page.now j (below-at_leaf l i c.args.label c.if-top-eq0.true c.requires.below)

pub way-requires : goal.way-requires
way-requires t c =
    let l = c.args.top.level in
    let half = level-half l c.if-top-eq0.false in
    let bound = in_tree-half l (l - 1) c.args.top.index half c.requires.in_tree in
    let below = below-lower l (l - 1) c.args.top.index c.args.label half c.requires.below (omega (arith, c.if-label-middle.true, c.middle.ensures)) in
    rw c.left.ensures (omega (arith, c.decreases), (c.requires.zeros, (omega arith, (omega arith, below))))

pub way-requires-else-label-middle : goal.way-requires-else-label-middle
way-requires-else-label-middle t c =
    let l = c.args.top.level in
    let half = level-half l c.if-top-eq0.false in
    let bound = in_tree-half l (l - 1) c.args.top.index half c.requires.in_tree in
    let below = below-upper l (l - 1) c.args.top.index c.args.label half c.requires.below (omega (arith, c.if-label-middle.false, c.middle.ensures)) in
    rw c.right.ensures (omega (arith, c.decreases), (c.requires.zeros, (bound, (omega arith, below))))

pub joined-requires-clause-right : goal.joined-requires-clause-right
joined-requires-clause-right t c = Stands-zeros _ (c.args.top.level - 1)

pub joined-requires-else-label-middle-clause-left : goal.joined-requires-else-label-middle-clause-left
joined-requires-else-label-middle-clause-left t c = Stands-zeros _ (c.args.top.level - 1)

pub returns-in_ok-left-clause-ok : goal.returns-in_ok-left-clause-ok
returns-in_ok-left-clause-ok t c =
    let l = c.args.top.level - 1 in
    let i = c.args.top.index in
    let label = c.args.label in
    let page = c.args.page.now in
    let half = level-half c.args.top.level c.if-top-eq0.false in
    let low : label < (2 * i + 1) * 2 ^ l = omega (arith, c.if-label-middle.true, c.middle.ensures) in
    if_ok-map c.joined.result
    (λ kept. (i j : ℕ) → shown (l + 1) i kept j ≡ either_half l i (shown l (2 * i) c.in_ok-left.left) (shown l (2 * i + 1) Zeros) j)
    (λ kept. (j : ℕ) → shown c.args.top.level i kept j ≡ put_at (shown c.args.top.level i Zeros) label page j)
    (λ kept is j.
    ap (λ (n : ℕ). shown n i kept j) half ∙ is i j
    ∙ half-put_left l i label page (shown l (2 * i) Zeros) (shown l (2 * i) c.in_ok-left.left) (shown l (2 * i + 1) Zeros) j low (rw c.left.ensures at (c.in_ok-left.ensures.ok j))
    ∙ put_at-same _ _ label page j (half-both l i (shown l (2 * i) Zeros) (shown l (2 * i + 1) Zeros) (replicate 64 0) j (shown-zeros l (2 * i) j) (shown-zeros l (2 * i + 1) j) ∙ sym (shown-zeros c.args.top.level i j)))
    c.joined.ensures.shown

pub returns-in_ok-right-clause-ok : goal.returns-in_ok-right-clause-ok
returns-in_ok-right-clause-ok t c =
    let l = c.args.top.level - 1 in
    let i = c.args.top.index in
    let label = c.args.label in
    let page = c.args.page.now in
    let half = level-half c.args.top.level c.if-top-eq0.false in
    let high : (2 * i + 1) * 2 ^ l ≤ label = omega (arith, c.if-label-middle.false, c.middle.ensures) in
    if_ok-map c.joined-else-label-middle.result
    (λ kept. (i j : ℕ) → shown (l + 1) i kept j ≡ either_half l i (shown l (2 * i) Zeros) (shown l (2 * i + 1) c.in_ok-right.right) j)
    (λ kept. (j : ℕ) → shown c.args.top.level i kept j ≡ put_at (shown c.args.top.level i Zeros) label page j)
    (λ kept is j.
    ap (λ (n : ℕ). shown n i kept j) half ∙ is i j
    ∙ half-put_right l i label page (shown l (2 * i) Zeros) (shown l (2 * i + 1) Zeros) (shown l (2 * i + 1) c.in_ok-right.right) j high (rw c.right.ensures at (c.in_ok-right.ensures.ok j))
    ∙ put_at-same _ _ label page j (half-both l i (shown l (2 * i) Zeros) (shown l (2 * i + 1) Zeros) (replicate 64 0) j (shown-zeros l (2 * i) j) (shown-zeros l (2 * i + 1) j) ∙ sym (shown-zeros c.args.top.level i j)))
    c.joined-else-label-middle.ensures.shown
