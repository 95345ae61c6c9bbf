use Rattle.std.proofs.Common.{Box, Global, ◌++◌, ◌+◌, ◌-◌, ◌*◌, refl, sym, ap, ◌∙◌, subst, arith}
use Rattle.sha2.specs.Sha256.{sha256}
use Rattle.page_tree.specs.Kept.{shown, digest_of}
use Rattle.page_tree.specs.declared.subtree.Pair.{Pair as KeptPair}
use Rattle.page_tree.proofs.PartLemmas.{in_tree-half}
use Rattle.page_tree.proofs.KeptLemmas.{HalfPut, Stands-pair, Stands-joined, Stands-leaf, Stands-one, shown-pair, shown-leaf, leaf-put, put_at-same, below-at_leaf, below-lower, below-upper, half-put_left, half-put_right}
use Rattle.page_tree.proofs.subtree.Subtree.+put.Goals as goal
use Rattle.page_tree.proofs.subtree.Subtree.+put.Goals.{then-label-middle+in_ok-put-in-Pair, else-label-middle+in_ok-put-in-Pair-2}

pub middle-requires-clause-above : goal.middle-requires-clause-above
middle-requires-clause-above t c =
    let half = (Stands-pair _ c.args.top.level c.args.self.now c.in-Pair.pair c.in-Pair.is c.requires.kept).half_is in
    omega arith

pub left-requires-clause-above : goal.left-requires-clause-above
left-requires-clause-above t c =
    let half = (Stands-pair _ c.args.top.level c.args.self.now c.in-Pair.pair c.in-Pair.is c.requires.kept).half_is in
    omega arith

pub put-requires : goal.put-requires
put-requires t c =
    let l = c.args.top.level in
    let i = c.args.top.index in
    let parts = Stands-pair _ l c.args.self.now c.in-Pair.pair c.in-Pair.is c.requires.kept in
    let half = parts.half_is in
    let bound = in_tree-half l (l - 1) i half c.requires.in_tree in
    let below = below-lower l (l - 1) i c.args.label half c.requires.below (omega (arith, c.if-label-middle.true, c.middle.ensures)) in
    rw (c.left.ensures, c.deref_mut-then-label-middle.ensures.value)
    (omega (arith, c.decreases), (c.requires.zeros, (parts.first, (omega arith, (omega arith, below)))))

pub put-requires-else-label-middle : goal.put-requires-else-label-middle
put-requires-else-label-middle t c =
    let l = c.args.top.level in
    let i = c.args.top.index in
    let parts = Stands-pair _ l c.args.self.now c.in-Pair.pair c.in-Pair.is c.requires.kept in
    let half = parts.half_is in
    let bound = in_tree-half l (l - 1) i half c.requires.in_tree in
    let below = below-upper l (l - 1) i c.args.label half c.requires.below (omega (arith, c.if-label-middle.false, c.middle.ensures)) in
    rw (c.right.ensures, c.deref_mut-else-label-middle.ensures.value)
    (omega (arith, c.decreases), (c.requires.zeros, (parts.second, (bound, (omega arith, below)))))

pub overflow_sub-level : goal.overflow_sub-level
overflow_sub-level t c =
    let half = (Stands-pair _ c.args.top.level c.args.self.now c.in-Pair.pair c.in-Pair.is c.requires.kept).half_is in
    omega arith

pub returns-in-Leaf-clause-kept : goal.returns-in-Leaf-clause-kept
returns-in-Leaf-clause-kept t c =
    let leaf = c.in-Leaf.leaf in
    let zero = (Stands-leaf _ c.args.top.level c.args.self.now leaf c.in-Leaf.is c.requires.kept).0 in
    Stands-one _ c.args.top.level _ zero c.leaf_digest.ensures

pub returns-in-Leaf-clause-ok : goal.returns-in-Leaf-clause-ok
returns-in-Leaf-clause-ok t c = λ j.
    let l = c.args.top.level in
    let i = c.args.top.index in
    let leaf = c.in-Leaf.leaf in
    let zero = (Stands-leaf _ l c.args.self.now leaf c.in-Leaf.is c.requires.kept).0 in
    shown-leaf l i _ _ refl zero j
    ∙ leaf-put i c.args.label c.args.page.now leaf.value.bytes j (below-at_leaf l i c.args.label zero c.requires.below)
    ∙ put_at-same _ _ c.args.label c.args.page.now j (sym (shown-leaf l i c.args.self.now leaf c.in-Leaf.is zero j))

pub returns-after-label-middle : goal.returns-after-label-middle
returns-after-label-middle t c =
    let l = c.args.top.level - 1 in
    let i = c.args.top.index in
    let label = c.args.label in
    let page = c.args.page.now in
    let old = c.in-Pair.pair in
    let m = shown c.args.top.level i c.args.self.now in
    let parts = Stands-pair _ c.args.top.level c.args.self.now old c.in-Pair.is c.requires.kept in
    let was = shown-pair c.args.top.level l i c.args.self.now old c.in-Pair.is parts.half_is in
    let left = shown l (2 * i) old.value.left in
    let right = shown l (2 * i + 1) old.value.right in
    let pair = c.if-label-middle.pair in
    let halves : HalfPut l i label page m pair.value.left pair.value.right =
    elim c.if-label-middle.branch [
      | then-label-middle+in_ok-put-in-Pair w ↦
          let put = rw (w.left.ensures, w.deref_mut-then-label-middle.ensures.value) at w.in_ok-put-in-Pair.ensures.ok in
          let new = shown l (2 * i) w.put.new.self in
          subst (λ p. HalfPut l i label page m p.value.left p.value.right) (sym w.pair-is) (rw w.deref_mut-then-label-middle.ensures.value (record {
            first = rw w.left.ensures at w.in_ok-put-in-Pair.ensures.kept;
            second = parts.second;
            shows = λ j. half-put_left l i label page left new right j (omega (arith, w.if-label-middle.true, c.middle.ensures)) (put j) ∙ put_at-same _ _ label page j (sym (was j));
          }))
      | else-label-middle+in_ok-put-in-Pair-2 w ↦
          let put = rw (w.right.ensures, w.deref_mut-else-label-middle.ensures.value) at w.in_ok-put-in-Pair-2.ensures.ok in
          let new = shown l (2 * i + 1) w.put-else-label-middle.new.self in
          subst (λ p. HalfPut l i label page m p.value.left p.value.right) (sym w.pair-is) (rw w.deref_mut-else-label-middle.ensures.value (record {
            first = parts.first;
            second = rw w.right.ensures at w.in_ok-put-in-Pair-2.ensures.kept;
            shows = λ j. half-put_right l i label page left right new j (omega (arith, w.if-label-middle.false, c.middle.ensures)) (put j) ∙ put_at-same _ _ label page j (sym (was j));
          }))
    ] in
    let digest = c.pair_digest.ensures
    ∙ ap (λ x. sha256 (x ++ c.digest-right.result)) (rw c.deref.ensures at c.digest-left.ensures)
    ∙ ap (λ x. sha256 (digest_of l pair.value.left ++ x)) (rw c.deref-in-Pair.ensures at c.digest-right.ensures) in
    let new : Box KeptPair Global = record { ptr = pair.ptr; alloc = pair.alloc; value = record { digest = c.pair_digest.result; left = pair.value.left; right = pair.value.right } } in
    rw c.deref_mut-in-Pair.ensures.value (record {
      kept = Stands-joined _ c.args.top.level l new parts.half_is digest halves.first halves.second;
      ok = λ j. shown-pair c.args.top.level l i _ new refl parts.half_is j ∙ halves.shows j;
      err = tt;
    })
