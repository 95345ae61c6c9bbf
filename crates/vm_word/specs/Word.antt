-- A word is a number below 2 ^ 32. Limbs, halves and bits are counted from the lowest.
use Rattle.std.specs.Prelude.{ℕ, ◌+◌, ◌-◌, ◌*◌, ◌/◌, ◌%◌, ◌^◌, ℤ, pos, ◌-ℤ◌, List, [], ◌∷◌, Bool, false, if◌then◌else◌, nat_lt, ◌==◌, map, slice_index}
use Rattle.std.specs.Int.{bit_at, from_bool}
use Rattle.std.specs.List.{range_with_len, slice_index_or}
use Rattle.vm_word.specs.Digits.{digit, number_of_digits}

-- limb i, a byte: word / 256 ^ i % 256
abbrev pub limb : ℕ → ℕ → ℕ
limb word i = digit 256 word i

abbrev pub limbs_of : ℕ → List ℕ
limbs_of word = limb word 0 ∷ limb word 1 ∷ limb word 2 ∷ limb word 3 ∷ []

-- the word that four limbs make
abbrev pub word_of_limbs : List ℕ → ℕ
word_of_limbs limbs = slice_index limbs 0 + slice_index limbs 1 * 256
    + slice_index limbs 2 * 256 ^ 2 + slice_index limbs 3 * 256 ^ 3

-- half i, of 16 bits: word / 65536 ^ i % 65536
abbrev pub half : ℕ → ℕ → ℕ
half word i = digit 65536 word i

abbrev pub halves_of : ℕ → List ℕ
halves_of word = half word 0 ∷ half word 1 ∷ []

-- the word in two's complement: itself below 2 ^ 31, and 2 ^ 32 less from there on
abbrev pub signed_value : ℕ → ℤ
signed_value word = if nat_lt word (2 ^ 31) then pos word else (pos word -ℤ pos (2 ^ 32))

-- the 32 bits of a word: bit i is word / 2 ^ i % 2
unfoldable pub bits_of : ℕ → List Bool
bits_of word = map (λ i. bit_at word i == 1) (range_with_len 0 32)

-- the word that 32 bits make
abbrev pub word_of_bits : List Bool → ℕ
word_of_bits bits = number_of_digits 2 (λ i. from_bool (slice_index_or bits i false)) 32
