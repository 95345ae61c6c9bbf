use Rattle.std.proofs.Common.{◌-◌}
use Rattle.gadget_limbs.proofs.LessSteps.{Marks}
use Rattle.gadget_limbs.proofs.order.mark_highest.Given as goal

abbrev pub invariant-loop-done : goal.invariant-loop-done
invariant-loop-done g l = Marks l.marks l.left l.right (g.row.N - l.done) l.above l.distance l.below
