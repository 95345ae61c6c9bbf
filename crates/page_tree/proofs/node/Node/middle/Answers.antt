use Rattle.std.proofs.Common.{◌-◌, arith}
use Rattle.page_tree.proofs.PartLemmas.{level-half, in_tree-half}
use Rattle.page_tree.proofs.node.Node.middle.Goals as goal

pub overflow_mul-result-2 : goal.overflow_mul-result-2
overflow_mul-result-2 c =
    let half = level-half c.args.self.level (λ e. omega (arith, e, c.requires.above)) in
    let bound = in_tree-half c.args.self.level (c.args.self.level - 1) c.args.self.index half c.requires.in_tree in
    rw c.pow.ensures (omega arith)
