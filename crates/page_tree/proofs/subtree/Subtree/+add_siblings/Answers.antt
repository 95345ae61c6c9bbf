use Rattle.std.proofs.Common.{◌≡◌, ◌+◌, ◌-◌, ◌*◌, [], ◌∷◌, ◌++◌, sym, ap, ◌∙◌, arith, append_assoc}
use Rattle.std.proofs.lemmas.List.{append-nil}
use Rattle.std.proofs.lemmas.Result.{on_ok_weaker}
use Rattle.page_tree.specs.Opening.{siblings_below}
use Rattle.page_tree.specs.Kept.{shown}
use Rattle.page_tree.proofs.PartLemmas.{part-none, part-some, part-left, part-right, level-half, in_tree-half}
use Rattle.page_tree.proofs.CompleteLemmas.{siblings-at_none, siblings-at_leaf, siblings-at_pair, siblings_below-same}
use Rattle.page_tree.proofs.KeptLemmas.{digest_of-right, half-left, half-right}
use Rattle.page_tree.proofs.subtree.Subtree.+add_siblings.Goals as goal

pub returns-then-places : goal.returns-then-places
returns-then-places t c =
    let l = c.args.top.level in
    let i = c.args.top.index in
    let one = siblings-at_none (shown l i c.args.self.now) c.args.labels.now l i (part-none _ _ _ _ _ c.requires.span c.if-places.true) in
    c.in_ok-push.ensures.items
    ∙ ap (λ d. c.args.siblings.now.items ++ d ∷ []) (c.digest.ensures ∙ digest_of-right l i c.args.self.now c.requires.kept)
    ∙ ap (λ xs. c.args.siblings.now.items ++ xs) (sym one)

pub returns-then-top-eq0 : goal.returns-then-top-eq0
returns-then-top-eq0 t c =
    let m = shown c.args.top.level c.args.top.index c.args.self.now in
    let some = part-some _ _ _ _ _ c.requires.span (omega (arith, c.requires.span.ordered)) in
    sym (append-nil c.args.siblings.now.items) ∙ ap (λ xs. c.args.siblings.now.items ++ xs) (sym (siblings-at_leaf m c.args.labels.now c.args.top.level c.args.top.index c.if-top-eq0.true some))

pub add_siblings-requires : goal.add_siblings-requires
add_siblings-requires t c =
    let half = level-half c.args.top.level c.if-top-eq0.false in
    let bound = in_tree-half c.args.top.level (c.args.top.level - 1) c.args.top.index half c.requires.in_tree in
    let span = part-left _ _ _ _ _ _ _ _ half c.middle.ensures c.requires.rising c.requires.span c.parting-at.ensures in
    rw (c.left.ensures, c.up_to-first.ensures)
    (omega (arith, c.decreases), (c.requires.zeros, (c.halves.ensures.left, (omega arith, (omega arith, (c.requires.rising, span))))))

pub add_siblings-requires-2 : goal.add_siblings-requires-2
add_siblings-requires-2 t c =
    let half = level-half c.args.top.level c.if-top-eq0.false in
    let bound = in_tree-half c.args.top.level (c.args.top.level - 1) c.args.top.index half c.requires.in_tree in
    let span = part-right _ _ _ _ _ _ _ _ half c.middle.ensures c.requires.rising c.requires.span c.parting-at.ensures in
    rw (c.right.ensures, c.starting-second.ensures)
    (omega (arith, c.decreases), (c.requires.zeros, (c.halves.ensures.right, (bound, (omega arith, (c.requires.rising, span))))))

pub returns : goal.returns
returns t c =
    let l = c.args.top.level - 1 in
    let i = c.args.top.index in
    let m = shown c.args.top.level i c.args.self.now in
    let first = shown l (2 * i) c.halves.result.0.now in
    let second = shown l (2 * i + 1) c.halves.result.1.now in
    let labels = c.args.labels.now in
    let some = part-some _ _ _ _ _ c.requires.span (omega (arith, c.requires.span.ordered)) in
    let pair = siblings-at_pair m labels c.args.top.level l i (level-half c.args.top.level c.if-top-eq0.false) some in
    let left = siblings_below m labels l (2 * i) in
    let right = siblings_below m labels l (2 * i + 1) in
    let lower = siblings_below-same first m labels l (2 * i) (λ j b. sym (c.halves.ensures.shown j ∙ half-left l i first second j b.to)) in
    let upper = siblings_below-same second m labels l (2 * i + 1) (λ j b. sym (c.halves.ensures.shown j ∙ half-right l i first second j b.from)) in
    on_ok_weaker c.add_siblings-2.result
    (λ (e : c.add_siblings-2.new.siblings.items ≡ c.add_siblings.new.siblings.items ++ siblings_below second labels l (2 * i + 1)).
    e
    ∙ ap (λ xs. c.add_siblings.new.siblings.items ++ xs) upper
    ∙ ap (λ xs. xs ++ right) (rw c.left.ensures at c.in_ok-add_siblings.ensures ∙ ap (λ xs. c.args.siblings.now.items ++ xs) lower)
    ∙ append_assoc c.args.siblings.now.items left right
    ∙ ap (λ xs. c.args.siblings.now.items ++ xs) pair)
    (rw c.right.ensures at c.add_siblings-2.ensures)
