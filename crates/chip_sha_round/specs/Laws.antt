-- What a row of the table says of words.
use Rattle.std.specs.Prelude.{◌≡◌, ◌≢◌, ℕ, ◌+◌, List, slice_index}
use Rattle.sha_words.specs.Sha256.{next_word, round, round_constant}
use Rattle.air_core.specs.Ring.{field}
use Rattle.air_core.specs.Sheet.{AllBelow, AllZero, counted}
use Rattle.air_core.specs.Lookups.{Good}
use Rattle.gadget_bits.specs.Sum.{AllHalves}
use Rattle.gadget_bits.proofs.StageLaws.{stage_numbers}
use Rattle.chip_sha_round.specs.Round.{round_row, round_constraints, round_lines, before_of, after_of}

-- A row that counts, holds and has good lookups is one round: where it receives a state and sixteen words of a
-- schedule, it sends the state after the round, and the words one place on.
abbrev pub ARowIsARound : Type 0
ARowIsARound = (row state words : List ℕ) → AllBelow row → AllZero (round_constraints field (slice_index row)) → Good (counted (round_lines field (round_row (slice_index row)))) → (round_row (slice_index row)).flag ≢ 0
    → slice_index words ((round_row (slice_index row)).round + 16) ≡ next_word words ((round_row (slice_index row)).round + 16)
    → AllHalves (before_of field (round_row (slice_index row))) (stage_numbers state words (round_row (slice_index row)).round)
    → AllHalves (after_of field (round_row (slice_index row))) (stage_numbers (round state (round_constant (round_row (slice_index row)).round) (slice_index words ((round_row (slice_index row)).round + 0))) words ((round_row (slice_index row)).round + 1))
