-- The rounds one by one, that they read only as many words as there are rounds, and the bounds of what they give.
use Rattle.std.proofs.Common.{◌≡◌, ℕ, zero, suc, ◌+◌, ◌<◌, ◌≤◌, List, slice_index, refl, length, ap, ◌∙◌, add-one, mod-lt, pow_pos, ◌^◌, arith}
use Rattle.sha_words.specs.declared.constants.TheConstants.{ROUND_CONSTANTS}
use Rattle.sha_words.specs.Sha256.{compress, round, round_constant, rounds, schedule, sums_of}
use Rattle.sha_words.proofs.ScheduleLemmas.{schedule-same}

round-same : (s s' : List ℕ) (k k' w w' : ℕ) → s ≡ s' → k ≡ k' → w ≡ w' → round s k w ≡ round s' k' w'
round-same s s' k k' w w' same_state same_constant same_word = λ i. round (same_state i) (same_constant i) (same_word i)

pub rounds-same : (state xs ys : List ℕ) (t : ℕ) → ((k : ℕ) → k < t → slice_index xs k ≡ slice_index ys k) → rounds state xs t ≡ rounds state ys t
unfolding rounds
rounds-same state xs ys zero same = refl
rounds-same state xs ys (suc t) same =
    let before = rounds-same state xs ys t (λ k lt. same k (omega arith)) in
    round-same _ _ _ _ _ _ before refl (same t (omega arith))

pub compress-rounds : (state block : List ℕ) (n : ℕ) → 64 ≤ n → compress state block ≡ sums_of state (rounds state (schedule block n) 64)
unfolding compress
compress-rounds state block n enough =
    ap (sums_of state) (rounds-same state (schedule block 64) (schedule block n) 64 (λ k lt. schedule-same block 64 n k lt (omega arith)))

-- one more round, with its parts given by equations
pub rounds-step : (state words working : List ℕ) (t constant word : ℕ) (next : List ℕ) → working ≡ rounds state words t
    → constant ≡ slice_index ROUND_CONSTANTS t → word ≡ slice_index words t → next ≡ round working constant word
    → next ≡ rounds state words (t + 1)
unfolding rounds round_constant
rounds-step state words working t constant word next before k w step =
    rw add-one (step ∙ round-same _ _ _ _ _ _ before k w)

-- ---- the working variables are eight words

pub length-round : (state : List ℕ) (constant word : ℕ) → length (round state constant word) ≡ 8
unfolding round
length-round state constant word = refl

pub length-rounds : (state words : List ℕ) (t : ℕ) → length state ≡ 8 → length (rounds state words t) ≡ 8
unfolding rounds
length-rounds state words zero long = long
length-rounds state words (suc t) long = length-round (rounds state words t) (round_constant t) (slice_index words t)

pub round-lt : (state : List ℕ) (constant word i : ℕ) → ((j : ℕ) → slice_index state j < 2 ^ 32) → slice_index (round state constant word) i < 2 ^ 32
unfolding round
round-lt state constant word zero fits = mod-lt _ (pow_pos 32)
round-lt state constant word (suc zero) fits = fits 0
round-lt state constant word (suc (suc zero)) fits = fits 1
round-lt state constant word (suc (suc (suc zero))) fits = fits 2
round-lt state constant word (suc (suc (suc (suc zero)))) fits = mod-lt _ (pow_pos 32)
round-lt state constant word (suc (suc (suc (suc (suc zero))))) fits = fits 4
round-lt state constant word (suc (suc (suc (suc (suc (suc zero)))))) fits = fits 5
round-lt state constant word (suc (suc (suc (suc (suc (suc (suc zero))))))) fits = fits 6
round-lt state constant word (suc (suc (suc (suc (suc (suc (suc (suc i)))))))) fits = pow_pos 32

pub rounds-lt : (state words : List ℕ) (t i : ℕ) → ((j : ℕ) → slice_index state j < 2 ^ 32) → slice_index (rounds state words t) i < 2 ^ 32
unfolding rounds
rounds-lt state words zero i fits = fits i
rounds-lt state words (suc t) i fits =
    round-lt (rounds state words t) (round_constant t) (slice_index words t) i (λ j. rounds-lt state words t j fits)
