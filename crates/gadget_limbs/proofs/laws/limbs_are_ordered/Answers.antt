use Rattle.gadget_limbs.proofs.Ordering.{less_law}
use Rattle.gadget_limbs.proofs.laws.limbs_are_ordered.Goals as goal

pub returns : goal.returns
returns c = less_law
