use Rattle.std.proofs.Common.{◌+◌, ◌-◌, ◌*◌, sym, ap, ◌∙◌, arith}
use Rattle.std.proofs.lemmas.Bool.{cond-true, cond-false, eq-eqb, ne_eqb}
use Rattle.page_tree.specs.Kept.{shown}
use Rattle.page_tree.proofs.PartLemmas.{in_tree-half}
use Rattle.page_tree.proofs.KeptLemmas.{Stands-pair, Stands-leaf, shown-pair, shown-leaf, shown-zeros, half-left, half-right}
use Rattle.page_tree.proofs.subtree.Subtree.+bytes.Goals as goal

pub middle-requires-clause-above : goal.middle-requires-clause-above
middle-requires-clause-above t c =
    let parts = Stands-pair _ c.args.top.level c.args.self.now c.in-Pair.pair c.in-Pair.is c.requires.kept in
    let half = parts.half_is in
    omega arith

pub left-requires-clause-above : goal.left-requires-clause-above
left-requires-clause-above t c =
    let half = (Stands-pair _ c.args.top.level c.args.self.now c.in-Pair.pair c.in-Pair.is c.requires.kept).half_is in
    omega arith

pub right-requires-clause-above : goal.right-requires-clause-above
right-requires-clause-above t c =
    let half = (Stands-pair _ c.args.top.level c.args.self.now c.in-Pair.pair c.in-Pair.is c.requires.kept).half_is in
    omega arith

pub bytes-requires : goal.bytes-requires
bytes-requires t c =
    let parts = Stands-pair _ c.args.top.level c.args.self.now c.in-Pair.pair c.in-Pair.is c.requires.kept in
    let half = parts.half_is in
    let bound = in_tree-half c.args.top.level (c.args.top.level - 1) c.args.top.index half c.requires.in_tree in
    rw (c.left.ensures, c.deref-then-label-middle.ensures) (omega (arith, c.decreases), (parts.first, (omega arith, omega arith)))

pub bytes-requires-else-label-middle : goal.bytes-requires-else-label-middle
bytes-requires-else-label-middle t c =
    let parts = Stands-pair _ c.args.top.level c.args.self.now c.in-Pair.pair c.in-Pair.is c.requires.kept in
    let half = parts.half_is in
    let bound = in_tree-half c.args.top.level (c.args.top.level - 1) c.args.top.index half c.requires.in_tree in
    rw (c.right.ensures, c.deref-else-label-middle.ensures) (omega (arith, c.decreases), (parts.second, (bound, omega arith)))

pub returns-in-Zeros : goal.returns-in-Zeros
returns-in-Zeros t c = sym (ap (λ x. shown c.args.top.level c.args.top.index x c.args.label) c.in-Zeros.is ∙ shown-zeros c.args.top.level c.args.top.index c.args.label)

pub returns-then-top-label : goal.returns-then-top-label
returns-then-top-label t c =
    let leaf = c.in-Leaf.leaf in
    let zero = (Stands-leaf _ c.args.top.level c.args.self.now leaf c.in-Leaf.is c.requires.kept).0 in
    ap (λ x. x.bytes) c.deref.ensures
    ∙ sym (shown-leaf c.args.top.level c.args.top.index c.args.self.now leaf c.in-Leaf.is zero c.args.label ∙ cond-true _ _ _ (eq-eqb c.args.top.index c.args.label c.if-top-label.true))

pub returns-else-top-label : goal.returns-else-top-label
returns-else-top-label t c =
    let leaf = c.in-Leaf.leaf in
    let zero = (Stands-leaf _ c.args.top.level c.args.self.now leaf c.in-Leaf.is c.requires.kept).0 in
    sym (shown-leaf c.args.top.level c.args.top.index c.args.self.now leaf c.in-Leaf.is zero c.args.label ∙ cond-false _ _ _ (ne_eqb c.args.top.index c.args.label c.if-top-label.false))

pub returns-then-label-middle : goal.returns-then-label-middle
returns-then-label-middle t c =
    let pair = c.in-Pair.pair in
    let parts = Stands-pair _ c.args.top.level c.args.self.now pair c.in-Pair.is c.requires.kept in
    let l = c.args.top.level - 1 in
    let i = c.args.top.index in
    rw (c.left.ensures, c.deref-then-label-middle.ensures) at c.bytes.ensures
    ∙ sym (shown-pair c.args.top.level l i c.args.self.now pair c.in-Pair.is parts.half_is c.args.label
    ∙ half-left l i (shown l (2 * i) pair.value.left) (shown l (2 * i + 1) pair.value.right) c.args.label (omega (arith, c.if-label-middle.true, c.middle.ensures)))

pub returns-else-label-middle : goal.returns-else-label-middle
returns-else-label-middle t c =
    let pair = c.in-Pair.pair in
    let parts = Stands-pair _ c.args.top.level c.args.self.now pair c.in-Pair.is c.requires.kept in
    let l = c.args.top.level - 1 in
    let i = c.args.top.index in
    rw (c.right.ensures, c.deref-else-label-middle.ensures) at c.bytes-else-label-middle.ensures
    ∙ sym (shown-pair c.args.top.level l i c.args.self.now pair c.in-Pair.is parts.half_is c.args.label
    ∙ half-right l i (shown l (2 * i) pair.value.left) (shown l (2 * i + 1) pair.value.right) c.args.label (omega (arith, c.if-label-middle.false, c.middle.ensures)))
