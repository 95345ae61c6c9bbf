use Rattle.gadget_limbs.proofs.SumLaw.{sum_law}
use Rattle.gadget_limbs.proofs.laws.limbs_that_hold_add_up.Goals as goal

pub returns : goal.returns
returns c = λ xs ys zs k b. sum_law xs ys zs k b.left_long b.right_long b.left b.right b.sum
