use Rattle.std.proofs.Common.{◌-◌}
use Rattle.gadget_limbs.proofs.LessSteps.{Upper}
use Rattle.gadget_limbs.proofs.less.marks_broken.Given as goal

abbrev pub invariant-loop-done : goal.invariant-loop-done
invariant-loop-done g l = Upper l.above_from l.marked_from l.distance l.less l.marks l.left l.right (g.row.N - l.done) l.sum l.above l.marked
