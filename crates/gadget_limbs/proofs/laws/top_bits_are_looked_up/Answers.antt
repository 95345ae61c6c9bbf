use Rattle.gadget_limbs.proofs.SignLaws.{sign_says, sign_meets}
use Rattle.gadget_limbs.proofs.laws.top_bits_are_looked_up.Goals as goal

pub returns : goal.returns
returns c = λ gate x g small x_low g_low. (λ h. sign_says gate x g g_low h, λ h. sign_meets gate x g small h)
