-- The parts of the constraints.
use Rattle.std.proofs.Common.{◌≡◌, ℕ, List, [], ◌∷◌, length, map, take, drop, slice_index, refl, sym, ◌∙◌, arith}
use Rattle.air_core.specs.First.{bit, first_from, or_else}
use Rattle.air_core.specs.Flags.{flag_constraints}
use Rattle.air_core.specs.Ring.{field, cells}
use Rattle.air_core.specs.lemmas.Cells.{cells_take}
use Rattle.air_core.proofs.FirstLemmas.{first_from-part}
use Rattle.chip_sha_round.specs.Round.{round_constraints}

length-flags : (f : ℕ) → length (flag_constraints field (f ∷ [])) ≡ 2
unfolding flag_constraints
length-flags f = refl

pub first_by_parts : (row : List ℕ) (flag : ℕ) → length row ≡ 299 → flag ≡ slice_index row 0
    → or_else (first_from 0 (flag_constraints field (flag ∷ []))) (first_from 2 (map (bit field) (take 256 (drop 5 row)))) ≡ first_from 0 (round_constraints field (slice_index row))
unfolding round_constraints
first_by_parts row flag wide is =
    let bits : take 256 (drop 5 row) ≡ cells (slice_index row) 5 256 = sym (cells_take row 5 256 (omega (arith, wide))) in
    (λ i. or_else (first_from 0 (flag_constraints field (is i ∷ []))) (first_from 2 (map (bit field) (bits i))))
    ∙ sym (first_from-part 0 2 (flag_constraints field (slice_index row 0 ∷ [])) (map (bit field) (cells (slice_index row) 5 256)) (omega (arith, length-flags (slice_index row 0))))
