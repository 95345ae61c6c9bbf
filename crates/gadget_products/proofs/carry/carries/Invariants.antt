use Rattle.std.proofs.Common.{◌≡◌, ◌++◌, take, drop, length}
use Rattle.gadget_products.specs.Carry.{carries}
use Rattle.gadget_products.proofs.carry.carries.Given as goal
use Rattle.air_core.specs.Ring.{field}

abbrev pub invariant-loop-i : goal.invariant-loop-i
invariant-loop-i g l = (length l.all ≡ length l.sums) × ((carries field) 0 l.sums l.limbs ≡ take l.i l.all ++ (carries field) l.carry (drop l.i l.sums) (drop l.i l.limbs))
