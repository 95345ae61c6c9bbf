-- What the results of instructions are in whole numbers and integers (RISC-V Unprivileged ISA 20191213, the
-- section beside each). Each law is the contract of a function in src/laws.rt.
use Rattle.std.specs.Prelude.{◌≡◌, ◌≢◌, ℕ, ◌+◌, ◌-◌, ◌*◌, ◌^◌, ◌<◌, ℤ, pos, ◌+ℤ◌, ◌-ℤ◌, ◌*ℤ◌, ◌⊎◌, int_lt, unsigned_abs, nat_lt, if◌then◌else◌}
use Rattle.std.specs.Int.Signed.{◌<ℤ◌, ◌≤ℤ◌}
use Rattle.vm_word.specs.Word.{signed_value}
use Rattle.vm_word.specs.Arithmetic.{shifted_right_signed, sign_extended, low_product, high_product, high_product_signed, high_product_mixed, quotient, quotient_signed, remainder, remainder_signed}

abbrev pub IsWord : ℕ → Type 0
IsWord n = n < 2 ^ 32

-- a number of this many bits in two's complement
abbrev pub signed_number : ℕ → ℕ → ℤ
signed_number bits number = if nat_lt number (2 ^ (bits - 1)) then pos number else (pos number -ℤ pos (2 ^ bits))

-- ---- 2.3: the extended word has the number's value

pub record Extends (bits number word : ℕ) : Type 0 where
  pub is_word : IsWord word
  pub value : signed_value word ≡ signed_number bits number

abbrev pub SignExtensionKeepsTheValue : Type 0
SignExtensionKeepsTheValue = (bits number : ℕ) → 0 < bits → bits < 32 → number < 2 ^ bits → Extends bits number (sign_extended bits number)

-- ---- 2.4: the quotient by a power of two, rounded down

pub record RoundsDown (value by result : ℤ) : Type 0 where
  pub least : (result *ℤ by) ≤ℤ value
  pub greatest : value <ℤ ((result +ℤ pos 1) *ℤ by)

abbrev pub SignedShiftRoundsDown : Type 0
SignedShiftRoundsDown = (word by : ℕ) → IsWord word → by < 32
    → IsWord (shifted_right_signed word by) × RoundsDown (signed_value word) (pos (2 ^ by)) (signed_value (shifted_right_signed word by))

-- ---- 7.1: the low and the high word make the whole product, whichever factors are signed

abbrev pub UnsignedProductsAreWhole : Type 0
UnsignedProductsAreWhole = (a b : ℕ) → IsWord a → IsWord b → IsWord (high_product a b) × (a * b ≡ low_product a b + 2 ^ 32 * high_product a b)

abbrev pub SignedProductsAreWhole : Type 0
SignedProductsAreWhole = (a b : ℕ) → IsWord a → IsWord b
    → IsWord (high_product_signed a b)
    × (signed_value a *ℤ signed_value b ≡ pos (low_product a b) +ℤ pos (2 ^ 32) *ℤ signed_value (high_product_signed a b))

abbrev pub MixedProductsAreWhole : Type 0
MixedProductsAreWhole = (a b : ℕ) → IsWord a → IsWord b
    → IsWord (high_product_mixed a b)
    × (signed_value a *ℤ pos b ≡ pos (low_product a b) +ℤ pos (2 ^ 32) *ℤ signed_value (high_product_mixed a b))

-- ---- 7.2: division, rounded towards 0

pub record IsDivision (a b q r : ℤ) : Type 0 where
  pub whole : a ≡ b *ℤ q +ℤ r
  pub small : unsigned_abs r < unsigned_abs b
  -- a remainder that isn't 0 has the sign of the dividend
  pub sign : (r ≡ pos 0) ⊎ (int_lt r (pos 0) ≡ int_lt a (pos 0))

abbrev pub UnsignedDivision : Type 0
UnsignedDivision = (a b : ℕ) → b ≢ 0 → (a ≡ b * quotient a b + remainder a b) × (remainder a b < b)

-- but for -2 ^ 31 by -1
abbrev pub SignedDivision : Type 0
SignedDivision = (a b : ℕ) → IsWord a → IsWord b → b ≢ 0 → (a ≡ 2 ^ 31 → b ≡ 2 ^ 32 - 1 → ⊥)
    → IsWord (quotient_signed a b) × IsWord (remainder_signed a b)
    × IsDivision (signed_value a) (signed_value b) (signed_value (quotient_signed a b)) (signed_value (remainder_signed a b))

-- by 0 the quotient has all bits set, and the remainder is the dividend; the quotient of -2 ^ 31 by -1 wraps
pub record DivisionsThatAreNone : Type 0 where
  pub quotient_by_zero : (a : ℕ) → quotient a 0 ≡ 2 ^ 32 - 1
  pub remainder_by_zero : (a : ℕ) → remainder a 0 ≡ a
  pub signed_quotient_by_zero : (a : ℕ) → quotient_signed a 0 ≡ 2 ^ 32 - 1
  pub signed_remainder_by_zero : (a : ℕ) → remainder_signed a 0 ≡ a
  pub wrapped_quotient : quotient_signed (2 ^ 31) (2 ^ 32 - 1) ≡ 2 ^ 31
  pub wrapped_remainder : remainder_signed (2 ^ 31) (2 ^ 32 - 1) ≡ 0
