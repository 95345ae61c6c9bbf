-- Words of a row and their lists.
use Rattle.std.proofs.Common.{◌≡◌, ℕ, List, [], ◌∷◌, length, refl, sym, ap, ◌∙◌, arith}
use Rattle.vm_field.specs.declared.limbs.Limbs.{Limbs}
use Rattle.vm_field.specs.Limbs.{list_of, limbs_from}

pub length-list_of : (w : Limbs ℕ) → length (list_of w) ≡ 4
unfolding list_of
length-list_of w = refl

-- the limbs of four numbers are these numbers
pub list_of-from : (xs : List ℕ) → length xs ≡ 4 → list_of (limbs_from xs) ≡ xs
unfolding list_of limbs_from
list_of-from (a ∷ b ∷ c ∷ d ∷ []) h = refl
list_of-from [] h = absurd (omega arith)
list_of-from (a ∷ []) h = absurd (omega arith)
list_of-from (a ∷ b ∷ []) h = absurd (omega arith)
list_of-from (a ∷ b ∷ c ∷ []) h = absurd (omega arith)
list_of-from (a ∷ b ∷ c ∷ d ∷ e ∷ more) h = absurd (omega arith)

-- limbs with one list are one word's
from-list_of : (w : Limbs ℕ) → limbs_from (list_of w) ≡ w
unfolding limbs_from list_of
from-list_of w = refl

pub limbs_same : (v w : Limbs ℕ) → list_of v ≡ list_of w → v ≡ w
limbs_same v w e = sym (from-list_of v) ∙ ap limbs_from e ∙ from-list_of w
