use Rattle.gadget_bits.proofs.BitLaws.{bits_of_halves}
use Rattle.gadget_bits.proofs.laws.halves_tell_bits.Goals as goal

pub returns : goal.returns
returns c = bits_of_halves
