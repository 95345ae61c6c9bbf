use Rattle.std.proofs.Common.{◌∙◌, sym}
use Rattle.gadget_limbs.proofs.SignLaws.{sign_law, sign_holds, sign_of_word, top_byte}
use Rattle.gadget_limbs.proofs.laws.signs_are_looked_up.Goals as goal

pub returns : goal.returns
returns c = λ g w bit p. (λ row. sign_law g w.x3 bit row ∙ sign_of_word w p, λ e. sign_holds g w.x3 (top_byte w p) (e ∙ sym (sign_of_word w p)))
