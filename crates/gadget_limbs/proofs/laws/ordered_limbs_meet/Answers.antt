use Rattle.gadget_limbs.proofs.OrderFilled.{less_holds}
use Rattle.gadget_limbs.proofs.laws.ordered_limbs_meet.Goals as goal

pub returns : goal.returns
returns c = less_holds
