-- Words of a row as 32 bit columns, lowest first, and as halves.
use Rattle.std.specs.Prelude.{◌≡◌, ℕ, zero, suc, ◌+◌, ◌/◌, ◌%◌, ◌^◌, ◌<◌, Bool, true, ◌&&◌, List, [], ◌∷◌, map, slice_index, nat_lt, if◌then◌else◌, Option, Some, None}
use Rattle.std.specs.Int.{bit_at}
use Rattle.std.specs.List.{range_with_len}
use Rattle.vm_word.specs.Digits.{number_of_digits}
use Rattle.air_core.specs.Ring.{Ring, cell}
use Rattle.gadget_bits.specs.declared.halves.Halves.{Halves}

-- d 0 + 2 * d 1 + .. + 2 ^ (k - 1) * d (k - 1)
unfoldable pub number_by : {A E : Type 0} → Ring A E → (ℕ → A) → ℕ → A
number_by o d zero = o.number 0
number_by o d (suc k) = o.plus (number_by o d k) (o.times (o.number (2 ^ k)) (d k))

-- the halves of 32 bits
unfoldable pub halves_by : {A E : Type 0} → Ring A E → List A → Halves A
halves_by o bits = record {
  lo = number_by o (λ i. cell o bits i) 16;
  hi = number_by o (λ i. cell o bits (i + 16)) 16;
}

-- Functions of bits, as polynomials.

-- x + y - 2 * x * y
abbrev pub xor_of : {A E : Type 0} → Ring A E → A → A → A
xor_of o x y = o.minus (o.plus x y) (o.times (o.number 2) (o.times x y))

unfoldable pub xor3_of : {A E : Type 0} → Ring A E → A → A → A → A
xor3_of o x y z = xor_of o (xor_of o x y) z

-- z + x * (y - z)
unfoldable pub choice_of : {A E : Type 0} → Ring A E → A → A → A → A
choice_of o x y z = o.plus z (o.times x (o.minus y z))

-- x * y + x * z + y * z - 2 * x * y * z
unfoldable pub majority_of : {A E : Type 0} → Ring A E → A → A → A → A
majority_of o x y z =
    o.minus (o.plus (o.plus (o.times x y) (o.times x z)) (o.times y z)) (o.times (o.number 2) (o.times (o.times x y) z))

-- The same of 32 bits.

-- bit i of a word turned right
abbrev pub turned : {A E : Type 0} → Ring A E → List A → ℕ → ℕ → A
turned o bits by i = cell o bits ((i + by) % 32)

-- bit i of a word shifted right
abbrev pub shifted : {A E : Type 0} → Ring A E → List A → ℕ → ℕ → A
shifted o bits by i = if nat_lt (i + by) 32 then cell o bits (i + by) else o.number 0

unfoldable pub big_sigma_bits : {A E : Type 0} → Ring A E → ℕ → ℕ → ℕ → List A → List A
big_sigma_bits o j k l bits = map (λ i. xor3_of o (turned o bits j i) (turned o bits k i) (turned o bits l i)) (range_with_len 0 32)

unfoldable pub small_sigma_bits : {A E : Type 0} → Ring A E → ℕ → ℕ → ℕ → List A → List A
small_sigma_bits o j k l bits = map (λ i. xor3_of o (turned o bits j i) (turned o bits k i) (shifted o bits l i)) (range_with_len 0 32)

unfoldable pub choice_bits : {A E : Type 0} → Ring A E → List A → List A → List A → List A
choice_bits o x y z = map (λ i. choice_of o (cell o x i) (cell o y i) (cell o z i)) (range_with_len 0 32)

unfoldable pub majority_bits : {A E : Type 0} → Ring A E → List A → List A → List A → List A
majority_bits o x y z = map (λ i. majority_of o (cell o x i) (cell o y i) (cell o z i)) (range_with_len 0 32)

-- What columns mean.

-- the word that 32 bits make
unfoldable pub word_by : List ℕ → ℕ
word_by bits = number_of_digits 2 (λ i. slice_index bits i) 32

-- each is 0 or 1
unfoldable pub all_bits : List ℕ → Bool
all_bits [] = true
all_bits (x ∷ xs) = nat_lt x 2 && all_bits xs

-- the word of 32 columns, where each is 0 or 1
unfoldable pub word_if_bits : List ℕ → Option ℕ
word_if_bits bits = if all_bits bits then Some (word_by bits) else None

-- 32 columns are the bits of a word
pub record BitsOf (bits : List ℕ) (word : ℕ) : Type 0 where
  pub are : (i : ℕ) → i < 32 → slice_index bits i ≡ bit_at word i

-- two columns are the halves of a word
pub record HalvesOf (h : Halves ℕ) (word : ℕ) : Type 0 where
  pub below : word < 2 ^ 32
  pub lo : h.lo ≡ word % 65536
  pub hi : h.hi ≡ word / 65536

-- The columns of a word.

-- two columns from a place on, by what stands at a place
unfoldable pub halves_at : {A : Type 0} → (ℕ → A) → ℕ → Halves A
halves_at column at = record { lo = column at; hi = column (at + 1) }

unfoldable pub bits_filled : ℕ → List ℕ
bits_filled word = map (λ i. bit_at word i) (range_with_len 0 32)

unfoldable pub halves_filled : ℕ → Halves ℕ
halves_filled word = record { lo = word % 65536; hi = word / 65536 }
