use Rattle.gadget_bits.proofs.BitLaws.{choice_halves, majority_halves}
use Rattle.gadget_bits.proofs.laws.bits_tell_choices.Goals as goal

pub returns : goal.returns
returns c = λ x y z u v w pu pv pw a b d. record { choice = choice_halves x y z u v w pu pv pw a b d; majority = majority_halves x y z u v w pu pv pw a b d }
