use Rattle.std.proofs.Common.{Box, Global, ◌≡◌, ℕ, ◌+◌, ◌-◌, ◌*◌, ◌^◌, refl, sym, ap, ◌∙◌, arith}
use Rattle.std.specs.Prelude.{⊤}
use Rattle.page_tree.specs.Kept.{shown}
use Rattle.page_tree.specs.declared.subtree.Pair.{Pair as KeptPair}
use Rattle.page_tree.proofs.PartLemmas.{in_tree-half}
use Rattle.page_tree.proofs.KeptLemmas.{Stands-pair, Stands-joined, Stands-some, shown-pair}
use Rattle.page_tree.proofs.StartLemmas.{LaysOver-away, LaysOver-halves}
use Rattle.page_tree.proofs.subtree.Subtree.+lay.Goals as goal
use Rattle.page_tree.proofs.subtree.Subtree.+lay.Goals.{then-to-start-via-then-to-start, then-to-start-via-else-to-start+then-start-width}

pub returns-then-to-start-clause-laid : goal.returns-then-to-start-clause-laid
returns-then-to-start-clause-laid t c =
    let l = c.args.top.level in
    let i = c.args.top.index in
    let start : i * c.pow-width.result ≡ i * 2 ^ l = ap (λ (x : ℕ). i * x) c.pow-width.ensures in
    LaysOver-away c.args.load.now.address c.args.load.now.bytes.now l i c.args.from c.args.to _ c.requires.memory c.requires.space c.requires.first c.requires.last
    (λ j b low high. elim c.then-to-start.branch [
      | then-to-start-via-then-to-start w ↦ omega (arith, start, b.from, w.if-to-start.true)
      | then-to-start-via-else-to-start+then-start-width w ↦ omega (arith, start, b.to, w.if-start-width.true, c.pow-width.ensures)
    ])

pub lay-requires : goal.lay-requires
lay-requires t c =
    let l = c.args.top.level in
    let i = c.args.top.index in
    let parts = Stands-pair _ l c.split.new.self c.in-Pair.pair c.in-Pair.is c.in_ok-split.ensures.shape in
    let half = parts.half_is in
    let bound = in_tree-half l (l - 1) i half c.requires.in_tree in
    rw (c.left.ensures, c.deref_mut.ensures.value)
    (omega (arith, c.decreases), (parts.first, (omega arith, (omega arith, (c.requires.memory, (c.requires.space, (c.requires.first, c.requires.last)))))))

pub lay-requires-in-Pair : goal.lay-requires-in-Pair
lay-requires-in-Pair t c =
    let l = c.args.top.level in
    let i = c.args.top.index in
    let parts = Stands-pair _ l c.split.new.self c.in-Pair.pair c.in-Pair.is c.in_ok-split.ensures.shape in
    let half = parts.half_is in
    let bound = in_tree-half l (l - 1) i half c.requires.in_tree in
    rw (c.right.ensures, c.deref_mut-in-Pair.ensures.value, c.deref_mut.ensures.value)
    (omega (arith, c.decreases), (parts.second, (bound, (omega arith, (c.requires.memory, (c.requires.space, (c.requires.first, c.requires.last)))))))

pub returns-in_ok-lay-2-clause-shape : goal.returns-in_ok-lay-2-clause-shape
returns-in_ok-lay-2-clause-shape t c =
    let l = c.args.top.level in
    let pair = c.in-Pair.pair in
    let parts = Stands-pair _ l c.split.new.self pair c.in-Pair.is c.in_ok-split.ensures.shape in
    let new : Box KeptPair Global = record { ptr = pair.ptr; alloc = pair.alloc; value = record { digest = c.deref_mut.result.now.digest; left = c.lay.new.self; right = c.lay-in-Pair.new.self } } in
    rw c.deref_mut-in-Pair.ensures.value
    (Stands-joined (λ digest node. ⊤) l (l - 1) new parts.half_is tt (rw c.left.ensures at c.in_ok-lay.ensures.shape) (rw c.right.ensures at c.in_ok-lay-2.ensures.shape))

pub returns-in_ok-lay-2-clause-laid : goal.returns-in_ok-lay-2-clause-laid
returns-in_ok-lay-2-clause-laid t c =
    let l = c.args.top.level in
    let i = c.args.top.index in
    let pair = c.in-Pair.pair in
    let load = c.args.load.now in
    let half = (Stands-pair _ l c.split.new.self pair c.in-Pair.is c.in_ok-split.ensures.shape).half_is in
    let left = c.lay.new.self in
    let right = c.lay-in-Pair.new.self in
    let new : Box KeptPair Global = record { ptr = pair.ptr; alloc = pair.alloc; value = record { digest = c.deref_mut.result.now.digest; left = left; right = right } } in
    rw c.deref_mut-in-Pair.ensures.value
    (LaysOver-halves load.address load.bytes.now l (l - 1) i (shown l i c.args.self.now) _ (shown (l - 1) (2 * i) pair.value.left) (shown (l - 1) (2 * i + 1) pair.value.right) (shown (l - 1) (2 * i) left) (shown (l - 1) (2 * i + 1) right) half
    (λ j. sym (c.in_ok-split.ensures.same i j) ∙ shown-pair l (l - 1) i c.split.new.self pair c.in-Pair.is half j)
    (λ j. shown-pair l (l - 1) i _ new refl half j)
    (rw (c.left.ensures, c.deref_mut.ensures.value) at c.in_ok-lay.ensures.laid)
    (rw (c.right.ensures, c.deref_mut-in-Pair.ensures.value, c.deref_mut.ensures.value) at c.in_ok-lay-2.ensures.laid))

pub returns-in_default : goal.returns-in_default
returns-in_default t c =
    absurd (Stands-some (λ digest node. ⊤) c.args.top.level c.split.new.self (omega (arith, c.if-top-eq0.false)) c.in_ok-split.ensures.shape c.in_ok-split.ensures.some c.in_default.not-Pair)
