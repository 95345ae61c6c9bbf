use Rattle.std.proofs.Common.{lit≤}
use Rattle.gadget_limbs.proofs.RangeLaws.{ranges_good, good_ranges}
use Rattle.gadget_products.proofs.laws.carries_are_looked_up.Goals as goal

pub returns : goal.returns
returns c = λ count ks some. (λ h. ranges_good count 11 ks some h, λ h. good_ranges count 11 ks (lit≤ tt) h)
