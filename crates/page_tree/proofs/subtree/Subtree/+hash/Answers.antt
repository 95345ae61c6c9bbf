use Rattle.std.proofs.Common.{Box, Global, ◌++◌, refl, sym, ap, ◌∙◌, ◌-◌, ◌+◌, ◌*◌, arith}
use Rattle.sha2.specs.Sha256.{sha256}
use Rattle.page_tree.specs.Kept.{shown, digest_of}
use Rattle.page_tree.specs.declared.subtree.Pair.{Pair as KeptPair}
use Rattle.page_tree.proofs.KeptLemmas.{Stands-pair, Stands-joined, Stands-leaf, Stands-one, Stands-zeros, shown-leaf, shown-pair, half-same}
use Rattle.page_tree.proofs.subtree.Subtree.+hash.Goals as goal

pub overflow_sub-below : goal.overflow_sub-below
overflow_sub-below t c =
    let half = (Stands-pair _ c.args.level c.args.self.now c.in-Pair.pair c.in-Pair.is c.requires.shape).half_is in
    omega arith

pub hash-requires : goal.hash-requires
hash-requires t c =
    let parts = Stands-pair _ c.args.level c.args.self.now c.in-Pair.pair c.in-Pair.is c.requires.shape in
    let half = parts.half_is in
    rw c.deref_mut-in-Pair.ensures.value (omega (arith, c.decreases), (c.requires.zeros, (parts.first, omega arith)))

pub hash-requires-in-Pair : goal.hash-requires-in-Pair
hash-requires-in-Pair t c =
    let parts = Stands-pair _ c.args.level c.args.self.now c.in-Pair.pair c.in-Pair.is c.requires.shape in
    let half = parts.half_is in
    rw (c.deref_mut-in-Pair-2.ensures.value, c.deref_mut-in-Pair.ensures.value) (omega (arith, c.decreases), (c.requires.zeros, (parts.second, omega arith)))

pub returns-in-Zeros-clause-kept : goal.returns-in-Zeros-clause-kept
returns-in-Zeros-clause-kept t c = rw c.in-Zeros.is (Stands-zeros _ c.args.level)

pub returns-in-Leaf-clause-kept : goal.returns-in-Leaf-clause-kept
returns-in-Leaf-clause-kept t c =
    let zero = (Stands-leaf _ c.args.level c.args.self.now c.in-Leaf.leaf c.in-Leaf.is c.requires.shape).0 in
    Stands-one _ c.args.level _ zero (rw c.deref_mut.ensures.value (rw c.deref.ensures at c.leaf_digest-digest.ensures))

pub returns-in-Leaf-clause-same : goal.returns-in-Leaf-clause-same
returns-in-Leaf-clause-same t c = λ i j.
    let l = c.args.level in
    let zero = (Stands-leaf _ l c.args.self.now c.in-Leaf.leaf c.in-Leaf.is c.requires.shape).0 in
    rw c.deref_mut.ensures.value (shown-leaf l i _ _ refl zero j ∙ sym (shown-leaf l i c.args.self.now c.in-Leaf.leaf c.in-Leaf.is zero j))

pub returns-in-Pair-clause-kept : goal.returns-in-Pair-clause-kept
returns-in-Pair-clause-kept t c =
    let l = c.args.level - 1 in
    let pair = c.in-Pair.pair in
    let half = (Stands-pair _ c.args.level c.args.self.now pair c.in-Pair.is c.requires.shape).half_is in
    let left = c.hash.new.self in
    let right = c.hash-in-Pair.new.self in
    let digest = c.pair_digest.ensures
    ∙ ap (λ x. sha256 (x ++ c.digest-right.result)) (rw (c.deref-in-Pair.ensures, c.deref_mut-in-Pair-2.ensures.value) at c.digest-left.ensures)
    ∙ ap (λ x. sha256 (digest_of l left ++ x)) (rw c.deref-in-Pair-2.ensures at c.digest-right.ensures) in
    let new : Box KeptPair Global = record { ptr = pair.ptr; alloc = pair.alloc; value = record { digest = c.pair_digest.result; left = left; right = right } } in
    rw (c.deref_mut-in-Pair-3.ensures.value, c.deref_mut-in-Pair-2.ensures.value) (Stands-joined _ c.args.level l new half digest c.hash.ensures.kept c.hash-in-Pair.ensures.kept)

pub returns-in-Pair-clause-same : goal.returns-in-Pair-clause-same
returns-in-Pair-clause-same t c = λ i j.
    let l = c.args.level - 1 in
    let pair = c.in-Pair.pair in
    let half = (Stands-pair _ c.args.level c.args.self.now pair c.in-Pair.is c.requires.shape).half_is in
    let left = c.hash.new.self in
    let right = c.hash-in-Pair.new.self in
    let new : Box KeptPair Global = record { ptr = pair.ptr; alloc = pair.alloc; value = record { digest = c.pair_digest.result; left = left; right = right } } in
    let first = rw c.deref_mut-in-Pair.ensures.value at (c.hash.ensures.same (2 * i) j) in
    let second = rw (c.deref_mut-in-Pair-2.ensures.value, c.deref_mut-in-Pair.ensures.value) at (c.hash-in-Pair.ensures.same (2 * i + 1) j) in
    rw (c.deref_mut-in-Pair-3.ensures.value, c.deref_mut-in-Pair-2.ensures.value)
    (shown-pair c.args.level l i _ new refl half j
    ∙ half-same l i (shown l (2 * i) left) (shown l (2 * i + 1) right) (shown l (2 * i) pair.value.left) (shown l (2 * i + 1) pair.value.right) j first second
    ∙ sym (shown-pair c.args.level l i c.args.self.now pair c.in-Pair.is half j))
