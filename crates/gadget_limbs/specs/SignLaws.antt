-- What SIGN and NEG say.
use Rattle.std.specs.Prelude.{◌≡◌, ◌≢◌, ℕ, ◌/◌, ◌<◌, ◌≤◌, ◌↔◌, Bool}
use Rattle.std.specs.Int.{from_bool}
use Rattle.vm_field.specs.Field.{modulus}
use Rattle.vm_field.specs.declared.limbs.Limbs.{Limbs}
use Rattle.vm_field.specs.Limbs.{list_of}
use Rattle.vm_isa.specs.Words.{IsBytes}
use Rattle.vm_word.specs.Word.{word_of_limbs}
use Rattle.vm_word.specs.Arithmetic.{negated_if, is_negative}
use Rattle.air_core.specs.Lookups.{IsXorRow}
use Rattle.air_core.specs.Ring.{field}
use Rattle.air_core.specs.Sheet.{AllZero}
use Rattle.gadget_limbs.specs.Sign.{sign_constraints, sign_looked_up, negative_constraints}

-- where the gate is 1, g is the top bit of the byte x; where it is 0, g is 0
pub record IsSign (gate x g : ℕ) : Type 0 where
  pub off : gate ≡ 0 → g ≡ 0
  pub on : gate ≡ 1 → (x < 256) × (g ≡ x / 128)

-- the constraints are 0, and what is looked up under the gate stands in the xor table
pub record SignHolds (gate x g : ℕ) : Type 0 where
  pub zero : AllZero (sign_constraints field g gate)
  pub good : gate ≢ 0 → IsXorRow (sign_looked_up field g x)

-- SIGN holds exactly where g is the top bit of the byte, or 0 where nothing is looked up
abbrev pub TopBitsAreLookedUp : Type 0
TopBitsAreLookedUp = (gate x g : ℕ) → gate ≤ 1 → x < modulus → g < modulus → SignHolds gate x g ↔ IsSign gate x g

-- what is looked up of the top limb stands in the xor table exactly where g is the sign bit of the word
abbrev pub SignsAreLookedUp : Type 0
SignsAreLookedUp = (g : ℕ) (w : Limbs ℕ) → g ≤ 1 → IsBytes (list_of w)
    → IsXorRow (sign_looked_up field g w.x3) ↔ (g ≡ from_bool (is_negative (word_of_limbs (list_of w))))

-- where the gate is 1, NEG says that the second word is the negative of the first, and else that it is the first
abbrev pub NegativesHold : Type 0
NegativesHold = (gate : Bool) (x y : Limbs ℕ) → IsBytes (list_of x) → IsBytes (list_of y)
    → AllZero (negative_constraints field (from_bool gate) (list_of x) (list_of y)) ↔ (word_of_limbs (list_of y) ≡ negated_if gate (word_of_limbs (list_of x)))
