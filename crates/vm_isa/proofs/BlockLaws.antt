-- Numbers in a block of four bytes.
use Rattle.std.proofs.Common.{◌≡◌, ℕ, ◌+◌, ◌*◌, ◌<◌, ◌≤◌, zero, suc, List, [], ◌∷◌, length, get_or, refl, ap, ◌∙◌, arith}
use Rattle.vm_word.specs.Word.{word_of_limbs}
use Rattle.vm_isa.specs.Results.{number_in}

pub number_in_byte : (block : List ℕ) (from : ℕ) → length block ≡ 4 → from < 4 → number_in block from 1 ≡ get_or block from 0
unfolding number_in
number_in_byte [] from h low = absurd (omega arith)
number_in_byte (a ∷ []) from h low = absurd (omega arith)
number_in_byte (a ∷ b ∷ []) from h low = absurd (omega arith)
number_in_byte (a ∷ b ∷ c ∷ []) from h low = absurd (omega arith)
number_in_byte (a ∷ b ∷ c ∷ d ∷ []) zero h low = omega arith
number_in_byte (a ∷ b ∷ c ∷ d ∷ []) (suc zero) h low = omega arith
number_in_byte (a ∷ b ∷ c ∷ d ∷ []) (suc (suc zero)) h low = omega arith
number_in_byte (a ∷ b ∷ c ∷ d ∷ []) (suc (suc (suc zero))) h low = omega arith
number_in_byte (a ∷ b ∷ c ∷ d ∷ []) (suc (suc (suc (suc n)))) h low = absurd (omega arith)
number_in_byte (a ∷ b ∷ c ∷ d ∷ e ∷ xs) from h low = absurd (omega arith)

pub number_in_half : (block : List ℕ) (from : ℕ) → length block ≡ 4 → from < 3 → number_in block from 2 ≡ get_or block from 0 + get_or block (from + 1) 0 * 256
unfolding number_in
number_in_half [] from h low = absurd (omega arith)
number_in_half (a ∷ []) from h low = absurd (omega arith)
number_in_half (a ∷ b ∷ []) from h low = absurd (omega arith)
number_in_half (a ∷ b ∷ c ∷ []) from h low = absurd (omega arith)
number_in_half (a ∷ b ∷ c ∷ d ∷ []) zero h low = omega arith
number_in_half (a ∷ b ∷ c ∷ d ∷ []) (suc zero) h low = omega arith
number_in_half (a ∷ b ∷ c ∷ d ∷ []) (suc (suc zero)) h low = omega arith
number_in_half (a ∷ b ∷ c ∷ d ∷ []) (suc (suc (suc n))) h low = absurd (omega arith)
number_in_half (a ∷ b ∷ c ∷ d ∷ e ∷ xs) from h low = absurd (omega arith)

pub number_in_word : (block : List ℕ) → length block ≡ 4 → number_in block 0 4 ≡ word_of_limbs block
unfolding number_in
number_in_word [] h = absurd (omega arith)
number_in_word (a ∷ []) h = absurd (omega arith)
number_in_word (a ∷ b ∷ []) h = absurd (omega arith)
number_in_word (a ∷ b ∷ c ∷ []) h = absurd (omega arith)
number_in_word (a ∷ b ∷ c ∷ d ∷ []) h = refl
number_in_word (a ∷ b ∷ c ∷ d ∷ e ∷ xs) h = absurd (omega arith)

pub number_in_first : (block : List ℕ) (from : ℕ) → length block ≡ 4 → from + 4 ≤ 4 → number_in block from 4 ≡ word_of_limbs block
number_in_first block from long within = let first : from ≡ 0 = omega arith in ap (λ (k : ℕ). number_in block k 4) first ∙ number_in_word block long
