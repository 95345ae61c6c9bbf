-- What the laws of the field say.
use Rattle.std.specs.Prelude.{◌≡◌, ◌≢◌, ℕ, ◌+◌, ◌*◌, ◌%◌, ◌<◌, ◌⊎◌}
use Rattle.vm_field.specs.Field.{modulus, field_add, field_sub, field_mul, field_neg}

-- a number is prime: it is above 1, and of two factors that give it one is 1
pub record IsPrime (p : ℕ) : Type 0 where
  pub above_one : 1 < p
  pub factors : (d e : ℕ) → d * e ≡ p → (d ≡ 1) ⊎ (e ≡ 1)

abbrev pub ModulusIsPrime : Type 0
ModulusIsPrime = IsPrime modulus

-- the numbers below a size are a field, with 0 and 1 as they are, by these operations
pub record IsField (size : ℕ) (add sub mul : ℕ → ℕ → ℕ) (neg : ℕ → ℕ) : Type 0 where
  pub one_below : 1 < size
  pub add_below : (a b : ℕ) → add a b < size
  pub sub_below : (a b : ℕ) → sub a b < size
  pub mul_below : (a b : ℕ) → mul a b < size
  pub neg_below : (a : ℕ) → neg a < size
  pub add_comm : (a b : ℕ) → add a b ≡ add b a
  pub add_assoc : (a b c : ℕ) → add (add a b) c ≡ add a (add b c)
  pub add_zero : (a : ℕ) → a < size → add a 0 ≡ a
  pub add_neg : (a : ℕ) → a < size → add a (neg a) ≡ 0
  pub sub_is : (a b : ℕ) → sub a b ≡ add a (neg b)
  pub mul_comm : (a b : ℕ) → mul a b ≡ mul b a
  pub mul_assoc : (a b c : ℕ) → mul (mul a b) c ≡ mul a (mul b c)
  pub mul_one : (a : ℕ) → a < size → mul a 1 ≡ a
  pub mul_add : (a b c : ℕ) → mul a (add b c) ≡ add (mul a b) (mul a c)
  pub inverse : (a : ℕ) → a < size → a ≢ 0 → (i : ℕ) × (i < size) × (mul a i ≡ 1)

abbrev pub OperationsFormAField : Type 0
OperationsFormAField = IsField modulus field_add field_sub field_mul field_neg

-- a product of two elements is 0 only if one of them is
abbrev pub NoZeroDivisors : Type 0
NoZeroDivisors = (a b : ℕ) → a < modulus → b < modulus → field_mul a b ≡ 0 → (a ≡ 0) ⊎ (b ≡ 0)

-- two inverses of one number are equal
abbrev pub InverseIsOne : Type 0
InverseIsOne = (a i j : ℕ) → i < modulus → j < modulus → field_mul a i ≡ 1 → field_mul a j ≡ 1 → i ≡ j

-- two whole numbers that are congruent, and less than the modulus apart, are equal
abbrev pub CloseNumbersLift : Type 0
CloseNumbersLift = (x y : ℕ) → x % modulus ≡ y % modulus → x < y + modulus → y < x + modulus → x ≡ y

-- where k is the quotient of s - a by n in the field, i the inverse of n, then s is a + n * k in
-- whole numbers, if both are below the modulus
abbrev pub QuotientsLift : Type 0
QuotientsLift = (n i k s a : ℕ) → field_mul n i ≡ 1 → k ≡ field_mul (field_sub s a) i
    → a + n * k < modulus → s < modulus → s ≡ a + n * k
