use Rattle.std.proofs.Common.{◌-◌, ◌*◌, refl, sym, ap, ◌∙◌, arith}
use Rattle.std.proofs.lemmas.Bool.{cond-true, eq-eqb}
use Rattle.page_tree.specs.Kept.{shown}
use Rattle.page_tree.specs.Loading.{laid_over}
use Rattle.page_tree.proofs.KeptLemmas.{Stands-one, Stands-pair, shown-leaf, shown-zeros}
use Rattle.page_tree.proofs.StartLemmas.{LaysOver-leaf}
use Rattle.page_tree.proofs.subtree.Subtree.lay_leaf.Goals as goal

pub returns-in_ok-new-in-Zeros-clause-shape : goal.returns-in_ok-new-in-Zeros-clause-shape
returns-in_ok-new-in-Zeros-clause-shape c = Stands-one _ 0 c.in_ok-new-in-Zeros.field-0 refl tt

pub returns-in_ok-new-in-Zeros-clause-laid : goal.returns-in_ok-new-in-Zeros-clause-laid
returns-in_ok-new-in-Zeros-clause-laid c =
    let label = c.args.label in
    let load = c.args.load.now in
    LaysOver-leaf load.address load.bytes.now label _ _ c.requires.low c.requires.high
    (shown-leaf 0 label _ c.in_ok-new-in-Zeros.field-0 refl refl label
    ∙ cond-true _ _ _ (eq-eqb label label refl)
    ∙ ap (λ leaf. leaf.bytes) c.in_ok-new-in-Zeros.ensures.ok
    ∙ c.lay_over.ensures
    ∙ ap (laid_over load.address load.bytes.now (64 * (label - 16777216))) (sym (ap (λ t. shown 0 label t label) c.in-Zeros.is ∙ shown-zeros 0 label label)))

pub returns-in-Leaf-clause-shape : goal.returns-in-Leaf-clause-shape
returns-in-Leaf-clause-shape c = Stands-one _ 0 _ refl tt

pub returns-in-Leaf-clause-laid : goal.returns-in-Leaf-clause-laid
returns-in-Leaf-clause-laid c =
    let label = c.args.label in
    let load = c.args.load.now in
    LaysOver-leaf load.address load.bytes.now label _ _ c.requires.low c.requires.high
    (shown-leaf 0 label _ _ refl refl label
    ∙ cond-true _ _ _ (eq-eqb label label refl)
    ∙ c.lay_over-in-Leaf.ensures
    ∙ ap (λ leaf. laid_over load.address load.bytes.now (64 * (label - 16777216)) leaf.bytes) c.deref_mut.ensures.value
    ∙ ap (laid_over load.address load.bytes.now (64 * (label - 16777216))) (sym (shown-leaf 0 label c.args.self.now c.in-Leaf.leaf c.in-Leaf.is refl label ∙ cond-true _ _ _ (eq-eqb label label refl))))

pub returns-in-Pair-clause-laid : goal.returns-in-Pair-clause-laid
returns-in-Pair-clause-laid c =
    absurd (let half = (Stands-pair _ 0 c.args.self.now c.in-Pair.field-0 c.in-Pair.is c.requires.shape).half_is in omega arith)
