-- Words of a row, and the numbers that they make.
use Rattle.std.proofs.Common.{◌≡◌, ℕ, ◌^◌, ◌<◌, List, [], ◌∷◌, length, refl, arith, lit<, slice_index, zero, suc}
use Rattle.std.proofs.Math.Nat.{pow-suc}
use Rattle.vm_word.specs.Word.{word_of_limbs, limbs_of}
use Rattle.vm_word.proofs.WordLemmas.{word_of_limbs-lt, limbs_of-word_of_limbs}
use Rattle.vm_isa.specs.Words.{IsBytes, IsWord}
use Rattle.air_core.specs.Sheet.{AllBelow}
use Rattle.air_core.specs.ListLemmas.{all_weaker}
use Rattle.vm_field.specs.declared.limbs.Limbs.{Limbs}
use Rattle.vm_field.specs.Limbs.{list_of}
use Rattle.gadget_limbs.specs.Number.{number_of}

-- bytes are elements
pub bytes_below : (xs : List ℕ) → IsBytes xs → AllBelow xs
bytes_below xs h = all_weaker (λ x. x < 256) (λ x. x < 2013265921) (λ x b. omega arith) xs h

pub byte_at : (xs : List ℕ) (i : ℕ) → IsBytes xs → slice_index xs i < 256
byte_at [] i h = lit< tt
byte_at (x ∷ xs) zero h = h.0
byte_at (x ∷ xs) (suc i) h = byte_at xs i h.1

-- limbs make a number below 256 to their count
pub number_of_below : (xs : List ℕ) → IsBytes xs → number_of xs < 256 ^ length xs
number_of_below [] b = omega arith
number_of_below (x ∷ xs) b = rw pow-suc (omega (arith, b.0, number_of_below xs b.1))

-- four limbs make a word
pub number_is_word : (a b c d : ℕ) → number_of (a ∷ b ∷ c ∷ d ∷ []) ≡ word_of_limbs (a ∷ b ∷ c ∷ d ∷ [])
number_is_word a b c d = omega arith

pub list_is_word : (w : Limbs ℕ) → number_of (list_of w) ≡ word_of_limbs (list_of w)
unfolding list_of
list_is_word w = number_is_word w.x0 w.x1 w.x2 w.x3

pub word_below : (w : Limbs ℕ) → IsBytes (list_of w) → word_of_limbs (list_of w) < 2 ^ 32
word_below w h = word_of_limbs-lt (list_of w) (λ i low. byte_at (list_of w) i h)

-- four bytes are the limbs of their word
pub limbs_of-word : (xs : List ℕ) → IsWord xs → limbs_of (word_of_limbs xs) ≡ xs
limbs_of-word xs h = limbs_of-word_of_limbs xs h.four (λ i low. byte_at xs i h.bytes)

pub limbs_word : (n : ℕ) → IsWord (limbs_of n)
limbs_word n = record { four = refl; bytes = (omega arith, (omega arith, (omega arith, (omega arith, tt)))) }
