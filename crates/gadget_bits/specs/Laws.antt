-- What bit columns and halves mean.
use Rattle.std.specs.Prelude.{ℕ, ◌%◌, ◌^◌, ◌<◌, ◌≤◌, List, length, slice_index}
use Rattle.sha_words.specs.Sha256.{ch, maj, big_sigma0, big_sigma1, small_sigma0, small_sigma1}
use Rattle.air_core.specs.Ring.{field}
use Rattle.gadget_bits.specs.declared.halves.Halves.{Halves}
use Rattle.gadget_bits.specs.Bits.{BitsOf, HalvesOf, halves_by, big_sigma_bits, small_sigma_bits, choice_bits, majority_bits}
use Rattle.gadget_bits.specs.Sum.{AllHalves, SumGood, plain_sum}

-- columns of 0 and 1 with the halves of a word are its bits
abbrev pub HalvesTellBits : Type 0
HalvesTellBits = (bits : List ℕ) (word : ℕ) → ((i : ℕ) → slice_index bits i < 2) → HalvesOf (halves_by field bits) word → BitsOf bits word

-- the halves of the polynomials of a word's bits are those of the word's functions
pub record FunctionsOf (bits : List ℕ) (word : ℕ) : Type 0 where
  pub big_sigma0 : HalvesOf (halves_by field (big_sigma_bits field 2 13 22 bits)) (big_sigma0 word)
  pub big_sigma1 : HalvesOf (halves_by field (big_sigma_bits field 6 11 25 bits)) (big_sigma1 word)
  pub small_sigma0 : HalvesOf (halves_by field (small_sigma_bits field 7 18 3 bits)) (small_sigma0 word)
  pub small_sigma1 : HalvesOf (halves_by field (small_sigma_bits field 17 19 10 bits)) (small_sigma1 word)

abbrev pub BitsTellFunctions : Type 0
BitsTellFunctions = (bits : List ℕ) (word : ℕ) → word < 2 ^ 32 → BitsOf bits word → FunctionsOf bits word

pub record ChoicesOf (x y z : List ℕ) (u v w : ℕ) : Type 0 where
  pub choice : HalvesOf (halves_by field (choice_bits field x y z)) (ch u v w)
  pub majority : HalvesOf (halves_by field (majority_bits field x y z)) (maj u v w)

abbrev pub BitsTellChoices : Type 0
BitsTellChoices = (x y z : List ℕ) (u v w : ℕ) → u < 2 ^ 32 → v < 2 ^ 32 → w < 2 ^ 32 → BitsOf x u → BitsOf y v → BitsOf z w → ChoicesOf x y z u v w

-- where the lookups of a sum of at most seven words are good, its halves are those of the sum
abbrev pub GoodLookupsAddUp : Type 0
GoodLookupsAddUp = (words : List (Halves ℕ)) (numbers : List ℕ) (out : Halves ℕ) → AllHalves words numbers → length words ≤ 7 → SumGood words out → HalvesOf out (plain_sum numbers % 2 ^ 32)

-- and those of the sum have good lookups
abbrev pub SumsAreLookedUp : Type 0
SumsAreLookedUp = (words : List (Halves ℕ)) (numbers : List ℕ) (out : Halves ℕ) → AllHalves words numbers → length words ≤ 7 → HalvesOf out (plain_sum numbers % 2 ^ 32) → SumGood words out
