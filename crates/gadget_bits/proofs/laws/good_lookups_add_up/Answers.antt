use Rattle.gadget_bits.proofs.SumLaws.{sum_law}
use Rattle.gadget_bits.proofs.laws.good_lookups_add_up.Goals as goal

pub returns : goal.returns
returns c = sum_law
