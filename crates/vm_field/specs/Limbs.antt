-- Words of a row as records of four limbs.
use Rattle.std.specs.Prelude.{ℕ, ◌+◌, ◌<◌, List, [], ◌∷◌, slice_index}
use Rattle.vm_field.specs.Field.{modulus}
use Rattle.vm_field.specs.declared.limbs.Limbs.{Limbs}

-- four columns from a place on, by what stands at a place, and of a row
abbrev pub limbs_by : {A : Type 0} → (ℕ → A) → ℕ → Limbs A
limbs_by column at = record { x0 = column at; x1 = column (at + 1); x2 = column (at + 2); x3 = column (at + 3) }

unfoldable pub limbs_at : List ℕ → ℕ → Limbs ℕ
limbs_at row at = limbs_by (slice_index row) at

unfoldable pub list_of : {A : Type 0} → Limbs A → List A
list_of w = w.x0 ∷ w.x1 ∷ w.x2 ∷ w.x3 ∷ []

-- the limbs of a list of four
unfoldable pub limbs_from : List ℕ → Limbs ℕ
limbs_from xs = record { x0 = slice_index xs 0; x1 = slice_index xs 1; x2 = slice_index xs 2; x3 = slice_index xs 3 }

-- the limbs are field elements
pub record LimbsBelow (w : Limbs ℕ) : Type 0 where
  pub x0 : w.x0 < modulus
  pub x1 : w.x1 < modulus
  pub x2 : w.x2 < modulus
  pub x3 : w.x3 < modulus
