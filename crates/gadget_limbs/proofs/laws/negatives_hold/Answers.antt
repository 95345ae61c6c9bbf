use Rattle.gadget_limbs.proofs.SignLaws.{negative_law, negative_holds}
use Rattle.std.proofs.Common.{refl}
use Rattle.std.specs.Int.{from_bool}
use Rattle.gadget_limbs.proofs.laws.negatives_hold.Goals as goal

pub returns : goal.returns
returns c = λ t x y p q. (λ h. negative_law t (from_bool t) x y refl p q h, λ e. negative_holds t (from_bool t) x y refl p q e)
