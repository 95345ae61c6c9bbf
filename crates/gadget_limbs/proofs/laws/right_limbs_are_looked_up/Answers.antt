use Rattle.gadget_limbs.proofs.LookupLaws.{right_limb}
use Rattle.gadget_limbs.proofs.laws.right_limbs_are_looked_up.Goals as goal

pub returns : goal.returns
returns c = right_limb
