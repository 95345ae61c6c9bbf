-- What the columns of a division say beside its product, and that those that are filled say it.
use Rattle.std.specs.Prelude.{◌≡◌, ◌≢◌, ℕ, ◌+◌, ◌*◌, ◌<◌, ◌≤◌, ◌&&◌, Bool, List, length}
use Rattle.std.specs.List.{AllByRecursion}
use Rattle.std.specs.Int.{from_bool}
use Rattle.vm_field.specs.declared.limbs.Limbs.{Limbs}
use Rattle.vm_field.specs.Limbs.{list_of}
use Rattle.vm_word.specs.Arithmetic.{is_negative, negated_if}
use Rattle.vm_word.specs.Word.{word_of_limbs}
use Rattle.vm_isa.specs.Words.{IsBytes}
use Rattle.air_core.specs.declared.event.Event.{Event}
use Rattle.air_core.specs.Lookups.{GoodEvent}
use Rattle.air_core.specs.Ring.{field}
use Rattle.air_core.specs.Sheet.{AllZero, AllBelow}
use Rattle.gadget_divide.specs.Divided.{Divided, divided_of, operand_constraints, result_constraints, divided_lookups, divided_filled}

abbrev pub word : Limbs ℕ → ℕ
word w = word_of_limbs (list_of w)

abbrev pub AreGood : List Event → Type 0
AreGood = AllByRecursion (λ e. e.count ≢ 0 → GoodEvent e)

-- the limbs that are looked up with the product
pub record BytesOfParts (c : Divided ℕ) : Type 0 where
  pub quotient : IsBytes (list_of c.quotient)
  pub remainder : IsBytes (list_of c.remainder)

-- and those of a row that is valid
pub record BytesOfDivided (c : Divided ℕ) : Type 0 where
  pub dividend : IsBytes (list_of c.dividend)
  pub divisor : IsBytes (list_of c.divisor)
  pub signed_quotient : IsBytes (list_of c.signed_quotient)
  pub signed_remainder : IsBytes (list_of c.signed_remainder)

-- what a valid row says of two words: t and s tell which are taken to be negative
pub record IsDivided (t s : Bool) (c : Divided ℕ) (b d : ℕ) : Type 0 where
  pub bytes : BytesOfDivided c
  pub dividend : word c.dividend ≡ negated_if t b
  pub divisor : word c.divisor ≡ negated_if s d
  pub quotient : word c.signed_quotient ≡ negated_if t (negated_if s (word c.quotient))
  pub remainder : word c.signed_remainder ≡ negated_if t (word c.remainder)
  pub by_zero : d ≡ 0 → c.by_zero ≡ 1
  pub by_some : d ≢ 0 → c.by_zero ≡ 0
  pub less : d ≢ 0 → word c.remainder < word c.divisor

-- constraints that are 0 and good lookups of a valid row say so
abbrev pub DividedIsMeant : Type 0
DividedIsMeant = (sign : Bool) (gate : ℕ) (own : List ℕ) (left right : Limbs ℕ) → (let c = divided_of field own in
    AllBelow own → IsBytes (list_of left) → IsBytes (list_of right) → BytesOfParts c → gate ≡ from_bool sign → AllZero (operand_constraints field gate c left right) → AllZero (result_constraints field 1 c)
    → AreGood (divided_lookups field 1 gate c left right) → IsDivided (sign && is_negative (word left)) (sign && is_negative (word right)) c (word left) (word right))

-- what a filled row meets, and its product
pub record DividedMeets (gate : ℕ) (c : Divided ℕ) (left right : Limbs ℕ) : Type 0 where
  pub operands : AllZero (operand_constraints field gate c left right)
  pub results : AllZero (result_constraints field 1 c)
  pub small : AllByRecursion (λ e. e.count ≤ 1) (divided_lookups field 1 gate c left right)
  pub good : AreGood (divided_lookups field 1 gate c left right)
  pub bytes : BytesOfDivided c
  pub parts : BytesOfParts c
  pub whole : word c.divisor * word c.quotient + word c.remainder ≡ word c.dividend

pub record FilledDivided (sign : Bool) (left right : Limbs ℕ) : Type 0 where
  pub long : length (divided_filled sign (word left) (word right)) ≡ 35
  pub below : AllBelow (divided_filled sign (word left) (word right))
  pub meets : (gate : ℕ) → gate ≡ from_bool sign → DividedMeets gate (divided_of field (divided_filled sign (word left) (word right))) left right

-- the filled columns meet them
abbrev pub FilledDividedHolds : Type 0
FilledDividedHolds = (sign : Bool) (left right : Limbs ℕ) → IsBytes (list_of left) → IsBytes (list_of right) → FilledDivided sign left right
