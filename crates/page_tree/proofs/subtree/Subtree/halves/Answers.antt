use Rattle.std.proofs.Common.{◌≡◌, ◌+◌, ◌-◌, ◌*◌, replicate, sym, ◌∙◌}
use Rattle.page_tree.specs.Kept.{shown}
use Rattle.page_tree.specs.declared.subtree.Subtree.TheVariants.{Zeros}
use Rattle.page_tree.proofs.KeptLemmas.{Stands-pair, Stands-above, Stands-zeros, shown-pair, shown-zeros, half-both}
use Rattle.page_tree.proofs.subtree.Subtree.halves.Goals as goal
use Rattle.page_tree.proofs.subtree.Subtree.halves.Goals.{In-Zeros}

pub returns-in-Pair-clause-left : goal.returns-in-Pair-clause-left
returns-in-Pair-clause-left c =
    let b = c.in-Pair.pair in
    rw c.deref.ensures ((Stands-pair _ c.args.top.level c.args.self.now b c.in-Pair.is c.requires.kept).first)

pub returns-in-Pair-clause-right : goal.returns-in-Pair-clause-right
returns-in-Pair-clause-right c =
    let b = c.in-Pair.pair in
    rw c.deref-in-Pair.ensures ((Stands-pair _ c.args.top.level c.args.self.now b c.in-Pair.is c.requires.kept).second)

pub returns-in-Pair-clause-shown : goal.returns-in-Pair-clause-shown
returns-in-Pair-clause-shown c = λ j.
    let b = c.in-Pair.pair in
    let half = (Stands-pair _ c.args.top.level c.args.self.now b c.in-Pair.is c.requires.kept).half_is in
    rw (c.deref.ensures, c.deref-in-Pair.ensures) (shown-pair c.args.top.level (c.args.top.level - 1) c.args.top.index c.args.self.now b c.in-Pair.is half j)

none_kept : (c : In-Zeros) → c.args.self.now ≡ Zeros
none_kept c = Stands-above _ c.args.top.level c.args.self.now c.requires.above c.requires.kept c.in-Zeros.is

pub returns-in-Zeros-clause-left : goal.returns-in-Zeros-clause-left
returns-in-Zeros-clause-left c = rw (none_kept c) (Stands-zeros _ (c.args.top.level - 1))

pub returns-in-Zeros-clause-right : goal.returns-in-Zeros-clause-right
returns-in-Zeros-clause-right c = rw (none_kept c) (Stands-zeros _ (c.args.top.level - 1))

pub returns-in-Zeros-clause-shown : goal.returns-in-Zeros-clause-shown
returns-in-Zeros-clause-shown c = λ j.
    let l = c.args.top.level in
    let i = c.args.top.index in
    rw (none_kept c) (shown-zeros l i j ∙ sym (half-both (l - 1) i (shown (l - 1) (2 * i) Zeros) (shown (l - 1) (2 * i + 1) Zeros) (replicate 64 0) j (shown-zeros (l - 1) (2 * i) j) (shown-zeros (l - 1) (2 * i + 1) j)))
