use Rattle.std.proofs.Common.{◌≡◌}
use Rattle.gadget_limbs.proofs.SumHolds.{sum_holds, sum_off}
use Rattle.gadget_limbs.proofs.laws.limbs_that_add_up_hold.Goals as goal

pub returns : goal.returns
returns c = λ gate k xs ys zs. (
  λ out b. sum_holds gate k out xs ys zs b.left_long b.right_long b.left b.right b.sum,
  λ (none : gate ≡ 0). rw none (sum_off k xs ys zs),
)
