use Rattle.gadget_bits.proofs.BitLaws.{big_sigma0_halves, big_sigma1_halves, small_sigma0_halves, small_sigma1_halves}
use Rattle.gadget_bits.proofs.laws.bits_tell_functions.Goals as goal

pub returns : goal.returns
returns c = λ bits word fits are. record {
  big_sigma0 = big_sigma0_halves bits word fits are;
  big_sigma1 = big_sigma1_halves bits word fits are;
  small_sigma0 = small_sigma0_halves bits word fits are;
  small_sigma1 = small_sigma1_halves bits word fits are;
}
