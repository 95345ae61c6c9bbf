use Rattle.std.proofs.Common.{◌≡◌, ◌+◌, drop}
use Rattle.air_core.specs.First.{first_from}
use Rattle.gadget_limbs.specs.Sum.{sum_constraints}
use Rattle.gadget_limbs.proofs.sum.first_broken.Given as goal
use Rattle.air_core.specs.Ring.{field}

abbrev pub invariant-loop-i : goal.invariant-loop-i
invariant-loop-i g l =
    first_from l.from (sum_constraints field l.gate 0 l.left l.right l.sum)
    ≡ first_from (l.from + l.i) (sum_constraints field l.gate l.carry (drop l.i l.left) (drop l.i l.right) (drop l.i l.sum))
