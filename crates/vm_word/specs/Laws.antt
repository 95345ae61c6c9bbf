-- What the definitions of a word's parts say of each other. Each law is the contract of a function
-- in src/laws.rt.
use Rattle.std.specs.Prelude.{◌≡◌, ℕ, ◌+◌, ◌*◌, ◌%◌, ◌^◌, ◌<◌, List, length, slice_index}
use Rattle.std.specs.Int.{bit_at, rotate_right, w32}
use Rattle.vm_word.specs.Word.{bits_of, half, limbs_of, signed_value, word_of_bits, word_of_limbs}

-- the limbs of a word make that word
abbrev pub LimbsMakeTheWord : Type 0
LimbsMakeTheWord = (word : ℕ) → word < 2 ^ 32 → word_of_limbs (limbs_of word) ≡ word

-- the word that four limbs make has those limbs
abbrev pub WordHasItsLimbs : Type 0
WordHasItsLimbs = (limbs : List ℕ) → length limbs ≡ 4 → ((i : ℕ) → i < 4 → slice_index limbs i < 256)
    → limbs_of (word_of_limbs limbs) ≡ limbs

-- a word is its low half and 65536 times its high half
abbrev pub WordIsItsHalves : Type 0
WordIsItsHalves = (word : ℕ) → word < 2 ^ 32 → word ≡ half word 0 + half word 1 * 65536

-- a word is the sum of its bits, each at its weight
abbrev pub WordIsSumOfItsBits : Type 0
WordIsSumOfItsBits = (word : ℕ) → word < 2 ^ 32 → word_of_bits (bits_of word) ≡ word

-- two words with one signed value are one word
abbrev pub SignedValueDeterminesWord : Type 0
SignedValueDeterminesWord = (a b : ℕ) → a < 2 ^ 32 → b < 2 ^ 32 → signed_value a ≡ signed_value b → a ≡ b

-- bit i of a word turned right is the bit `by` places above it, modulo 32
abbrev pub RotationMovesBits : Type 0
RotationMovesBits = (word by i : ℕ) → word < 2 ^ 32 → by < 32 → i < 32
    → bit_at (rotate_right w32 word by) i ≡ bit_at word ((i + by) % 32)
