-- What LT owes and says, at any number of limbs.
use Rattle.std.specs.Prelude.{◌≡◌, ℕ, ◌+◌, ◌<◌, ◌≤◌, nat_lt, Bool, if◌then◌else◌, [], ◌∷◌, length}
use Rattle.std.specs.Int.{from_bool}
use Rattle.std.specs.List.{AllByRecursion}
use Rattle.vm_field.specs.Field.{modulus}
use Rattle.vm_field.specs.declared.limbs.Limbs.{Limbs}
use Rattle.vm_field.specs.Limbs.{list_of}
use Rattle.vm_isa.specs.Words.{IsBytes}
use Rattle.vm_word.specs.Word.{word_of_limbs}
use Rattle.vm_word.specs.Arithmetic.{signed_less}
use Rattle.air_core.specs.Ring.{field}
use Rattle.air_core.specs.Sheet.{AllZero, AllBelow}
use Rattle.gadget_limbs.specs.Less.{Digits, LessColumns, less_constraints, less_ranges, less_filled, ordered}

pub record AreDigits (x : Digits ℕ) : Type 0 where
  pub low : IsBytes x.low
  pub top : x.top < 256

-- the columns are elements, with a mark for each limb
pub record LessBelow (x : Digits ℕ) (c : LessColumns ℕ) : Type 0 where
  pub long : length c.marks ≡ length x.low + 1
  pub left_top : c.left_top < modulus
  pub right_top : c.right_top < modulus
  pub marks : AllBelow c.marks
  pub less : c.less < modulus

-- the constraints are 0, and what is looked up is bytes
pub record LessMeets (signed : ℕ) (x y : Digits ℕ) (c : LessColumns ℕ) : Type 0 where
  pub zero : AllZero (less_constraints field x y c)
  pub ranges : AllByRecursion (λ n. n < 256) (less_ranges field signed c)

-- columns that meet LT say which number is below the other
abbrev pub LimbsAreOrdered : Type 0
LimbsAreOrdered = (signed : ℕ) (x y : Digits ℕ) (c : LessColumns ℕ) → signed ≤ 1 → AreDigits x → AreDigits y → length x.low ≡ length y.low → length x.low ≤ 63 → LessBelow x c → LessMeets signed x y c
    → c.less ≡ from_bool (nat_lt (ordered signed x) (ordered signed y))

-- and those that are filled meet it
abbrev pub OrderedLimbsMeet : Type 0
OrderedLimbsMeet = (signed : ℕ) (x y : Digits ℕ) → signed ≤ 1 → AreDigits x → AreDigits y → length x.low ≡ length y.low
    → LessBelow x (less_filled signed x y) × LessMeets signed x y (less_filled signed x y)

-- ---- words

abbrev pub digits_of : {A : Type 0} → Limbs A → Digits A
digits_of w = record { low = w.x0 ∷ w.x1 ∷ w.x2 ∷ []; top = w.x3 }

-- as signed words, or as they are
abbrev pub word_less : Bool → ℕ → ℕ → Bool
word_less signed a b = if signed then signed_less a b else nat_lt a b

abbrev pub WordsAreOrdered : Type 0
WordsAreOrdered = (signed : Bool) (x y : Limbs ℕ) → IsBytes (list_of x) → IsBytes (list_of y)
    → nat_lt (ordered (from_bool signed) (digits_of x)) (ordered (from_bool signed) (digits_of y)) ≡ word_less signed (word_of_limbs (list_of x)) (word_of_limbs (list_of y))
