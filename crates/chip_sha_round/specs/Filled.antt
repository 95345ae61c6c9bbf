-- The parts of a filled row before and behind the bits.
use Rattle.std.specs.Prelude.{ℕ, ◌+◌, ◌/◌, ◌%◌, List, [], ◌∷◌, slice_index}
use Rattle.sha_words.specs.Sha256.{round, round_constant}
use Rattle.gadget_bits.specs.declared.halves.Halves.{Halves}
use Rattle.gadget_bits.specs.Bits.{halves_filled}

abbrev pub head_filled : ℕ → ℕ → List ℕ
head_filled time t = 1 ∷ time ∷ t ∷ round_constant t % 65536 ∷ round_constant t / 65536 ∷ []

unfoldable pub tail_filled : ℕ → List ℕ → List ℕ → List (Halves ℕ)
tail_filled t state words =
    halves_filled (slice_index state 3) ∷ halves_filled (slice_index state 7) ∷ halves_filled (slice_index words (t + 0)) ∷ halves_filled (slice_index words (t + 2)) ∷ halves_filled (slice_index words (t + 3))
    ∷ halves_filled (slice_index words (t + 4)) ∷ halves_filled (slice_index words (t + 5)) ∷ halves_filled (slice_index words (t + 6)) ∷ halves_filled (slice_index words (t + 7)) ∷ halves_filled (slice_index words (t + 8))
    ∷ halves_filled (slice_index words (t + 9)) ∷ halves_filled (slice_index words (t + 10)) ∷ halves_filled (slice_index words (t + 11)) ∷ halves_filled (slice_index words (t + 12)) ∷ halves_filled (slice_index words (t + 13))
    ∷ halves_filled (slice_index words (t + 15)) ∷ halves_filled (slice_index (round state (round_constant t) (slice_index words (t + 0))) 0)
    ∷ halves_filled (slice_index (round state (round_constant t) (slice_index words (t + 0))) 4) ∷ halves_filled (slice_index words (t + 16)) ∷ []
