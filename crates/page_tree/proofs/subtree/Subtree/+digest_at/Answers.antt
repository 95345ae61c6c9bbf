use Rattle.std.proofs.Common.{ℕ, ◌+◌, ◌-◌, ◌*◌, ◌^◌, ◌<◌, ◌≤◌, sym, ap, ◌∙◌, subst, arith}
use Rattle.sha2.specs.Sha256.{sha256}
use Rattle.page_tree.specs.Tree.{node}
use Rattle.page_tree.specs.Kept.{shown, digest_of}
use Rattle.page_tree.proofs.TreeLemmas.{node-same}
use Rattle.page_tree.proofs.PartLemmas.{in_tree-half}
use Rattle.page_tree.proofs.KeptLemmas.{Stands-pair, Stands-above, digest_of-right, shown-pair, shown-zeros, node-zero, half-left, half-right, twice, ends_before, one_index}
use Rattle.page_tree.proofs.subtree.Subtree.+digest_at.Goals as goal

pub returns-then-at-top : goal.returns-then-at-top
returns-then-at-top t c =
    let l = c.args.top.level in
    let i = c.args.top.index in
    let kept = c.args.self.now in
    let e = c.if-at-top.true in
    let low : i * 2 ^ l ≤ c.args.at.index * 2 ^ l = subst (λ (n : ℕ). i * 2 ^ l ≤ c.args.at.index * 2 ^ n) e c.requires.from in
    let high : (c.args.at.index + 1) * 2 ^ l ≤ (i + 1) * 2 ^ l = subst (λ (n : ℕ). (c.args.at.index + 1) * 2 ^ n ≤ (i + 1) * 2 ^ l) e c.requires.to in
    c.digest.ensures
    ∙ ap (λ (n : ℕ). digest_of n kept) e
    ∙ digest_of-right l i kept c.requires.kept
    ∙ ap (λ (n : ℕ). sha256 (node (shown l i kept) n i)) (sym e)
    ∙ ap (λ (k : ℕ). sha256 (node (shown l i kept) c.args.at.level k)) (sym (one_index l i c.args.at.index low high))

pub digest_at-requires : goal.digest_at-requires
digest_at-requires t c =
    let l = c.args.top.level in
    let i = c.args.top.index in
    let parts = Stands-pair _ l c.args.self.now c.in-Pair.pair c.in-Pair.is c.requires.kept in
    let half = parts.half_is in
    let bound = in_tree-half l (l - 1) i half c.requires.in_tree in
    let from = twice l (l - 1) i half in
    let before : c.args.at.index * 2 ^ c.args.at.level < (2 * i + 1) * 2 ^ (l - 1) = subst (λ (x : ℕ). c.args.at.index * x < (2 * i + 1) * 2 ^ (l - 1)) c.pow.ensures (omega (arith, c.if-at-pow.true, c.middle.ensures)) in
    let to = ends_before c.args.at.index c.args.at.level (2 * i + 1) (l - 1) (omega (arith, c.if-at-top.false, c.requires.lower)) before in
    rw (c.left.ensures, c.deref.ensures)
    (omega (arith, c.decreases), (c.requires.zeros, (parts.first, (omega arith, (omega arith, (omega (arith, c.if-at-top.false, c.requires.lower), (omega (arith, c.requires.from), to)))))))

pub digest_at-requires-else-at-pow : goal.digest_at-requires-else-at-pow
digest_at-requires-else-at-pow t c =
    let l = c.args.top.level in
    let i = c.args.top.index in
    let parts = Stands-pair _ l c.args.self.now c.in-Pair.pair c.in-Pair.is c.requires.kept in
    let half = parts.half_is in
    let bound = in_tree-half l (l - 1) i half c.requires.in_tree in
    let end = twice l (l - 1) (i + 1) half in
    let behind : (2 * i + 1) * 2 ^ (l - 1) ≤ c.args.at.index * 2 ^ c.args.at.level = subst (λ (x : ℕ). (2 * i + 1) * 2 ^ (l - 1) ≤ c.args.at.index * x) c.pow.ensures (omega (arith, c.if-at-pow.false, c.middle.ensures)) in
    let to : (c.args.at.index + 1) * 2 ^ c.args.at.level ≤ (2 * i + 1 + 1) * 2 ^ (l - 1) = omega (arith, c.requires.to) in
    rw (c.right.ensures, c.deref-else-at-pow.ensures)
    (omega (arith, c.decreases), (c.requires.zeros, (parts.second, (bound, (omega arith, (omega (arith, c.if-at-top.false, c.requires.lower), (behind, to)))))))

pub returns-then-at-pow : goal.returns-then-at-pow
returns-then-at-pow t c =
    let l = c.args.top.level in
    let i = c.args.top.index in
    let pair = c.in-Pair.pair in
    let parts = Stands-pair _ l c.args.self.now pair c.in-Pair.is c.requires.kept in
    let before : c.args.at.index * 2 ^ c.args.at.level < (2 * i + 1) * 2 ^ (l - 1) = subst (λ (x : ℕ). c.args.at.index * x < (2 * i + 1) * 2 ^ (l - 1)) c.pow.ensures (omega (arith, c.if-at-pow.true, c.middle.ensures)) in
    let to = ends_before c.args.at.index c.args.at.level (2 * i + 1) (l - 1) (omega (arith, c.if-at-top.false, c.requires.lower)) before in
    rw (c.left.ensures, c.deref.ensures) at c.digest_at.ensures
    ∙ ap sha256 (node-same (shown (l - 1) (2 * i) pair.value.left) (shown l i c.args.self.now) c.args.at.level c.args.at.index (λ j b.
    sym (shown-pair l (l - 1) i c.args.self.now pair c.in-Pair.is parts.half_is j ∙ half-left (l - 1) i (shown (l - 1) (2 * i) pair.value.left) (shown (l - 1) (2 * i + 1) pair.value.right) j (omega (arith, b.to, to)))))

pub returns-else-at-pow : goal.returns-else-at-pow
returns-else-at-pow t c =
    let l = c.args.top.level in
    let i = c.args.top.index in
    let pair = c.in-Pair.pair in
    let parts = Stands-pair _ l c.args.self.now pair c.in-Pair.is c.requires.kept in
    let behind : (2 * i + 1) * 2 ^ (l - 1) ≤ c.args.at.index * 2 ^ c.args.at.level = subst (λ (x : ℕ). (2 * i + 1) * 2 ^ (l - 1) ≤ c.args.at.index * x) c.pow.ensures (omega (arith, c.if-at-pow.false, c.middle.ensures)) in
    rw (c.right.ensures, c.deref-else-at-pow.ensures) at c.digest_at-else-at-pow.ensures
    ∙ ap sha256 (node-same (shown (l - 1) (2 * i + 1) pair.value.right) (shown l i c.args.self.now) c.args.at.level c.args.at.index (λ j b.
    sym (shown-pair l (l - 1) i c.args.self.now pair c.in-Pair.is parts.half_is j ∙ half-right (l - 1) i (shown (l - 1) (2 * i) pair.value.left) (shown (l - 1) (2 * i + 1) pair.value.right) j (omega (arith, b.from, behind)))))

pub returns-in-Zeros : goal.returns-in-Zeros
returns-in-Zeros t c =
    let l = c.args.top.level in
    let i = c.args.top.index in
    let none = Stands-above _ l c.args.self.now (omega (arith, c.if-at-top.false, c.requires.lower)) c.requires.kept c.in-Zeros.is in
    c.requires.zeros.each c.args.at.level (omega arith)
    ∙ ap sha256 (sym (node-zero (shown l i c.args.self.now) c.args.at.level c.args.at.index (λ j b. ap (λ x. shown l i x j) none ∙ shown-zeros l i j)))
