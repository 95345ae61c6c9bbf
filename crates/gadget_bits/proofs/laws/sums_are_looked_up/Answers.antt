use Rattle.gadget_bits.proofs.SumLaws.{sum_fits}
use Rattle.gadget_bits.proofs.laws.sums_are_looked_up.Goals as goal

pub returns : goal.returns
returns c = sum_fits
