-- Words of a stage, as halves and as numbers.
use Rattle.std.proofs.Common.{◌≡◌, ℕ, ◌+◌, ◌/◌, ◌%◌, ◌<◌, List, [], ◌∷◌, ◌++◌, flat_map, length, slice_index, refl, sym, subst, ◌∙◌, arith}
use Rattle.air_core.specs.Sheet.{AllBelow}
use Rattle.gadget_bits.specs.declared.halves.Halves.{Halves}
use Rattle.gadget_bits.specs.Bits.{HalvesOf}
use Rattle.gadget_bits.specs.Stage.{halves_cells}
use Rattle.gadget_bits.specs.Sum.{AllHalves}

-- the words of a stage: the working variables, and those of the schedule from a place on
abbrev pub stage_numbers : List ℕ → List ℕ → ℕ → List ℕ
stage_numbers state words t = slice_index state 0 ∷ slice_index state 1 ∷ slice_index state 2 ∷ slice_index state 3 ∷ slice_index state 4 ∷ slice_index state 5 ∷ slice_index state 6 ∷ slice_index state 7
    ∷ slice_index words (t + 0) ∷ slice_index words (t + 1) ∷ slice_index words (t + 2) ∷ slice_index words (t + 3) ∷ slice_index words (t + 4) ∷ slice_index words (t + 5) ∷ slice_index words (t + 6) ∷ slice_index words (t + 7)
    ∷ slice_index words (t + 8) ∷ slice_index words (t + 9) ∷ slice_index words (t + 10) ∷ slice_index words (t + 11) ∷ slice_index words (t + 12) ∷ slice_index words (t + 13) ∷ slice_index words (t + 14) ∷ slice_index words (t + 15) ∷ []

-- a word at another place that is the same
pub moved : (x : Halves ℕ) (words : List ℕ) (m n : ℕ) → m ≡ n → HalvesOf x (slice_index words m) → HalvesOf x (slice_index words n)
moved x words m n e h = subst (λ (j : ℕ). HalvesOf x (slice_index words j)) e h

-- words with the same cells are the same numbers
pub halves_moved : (us vs : List (Halves ℕ)) (ns : List ℕ) → halves_cells us ≡ halves_cells vs → AllHalves us ns → AllHalves vs ns
halves_moved [] [] ns e h = h
halves_moved [] (v ∷ vs) ns e h = absurd (cc)
halves_moved (u ∷ us) [] ns e h = absurd (cc)
halves_moved (u ∷ us) (v ∷ vs) [] e h = absurd h
halves_moved (u ∷ us) (v ∷ vs) (n ∷ ns) e h =
    let lo : u.lo ≡ v.lo = cc in
    let hi : u.hi ≡ v.hi = cc in
    let rest : halves_cells us ≡ halves_cells vs = cc in
    let here : HalvesOf u n = h.0 in
    (record { below = here.below; lo = sym lo ∙ here.lo; hi = sym hi ∙ here.hi }, halves_moved us vs ns rest h.1)

-- the halves of numbers
abbrev pub number_cells : List ℕ → List ℕ
number_cells ns = flat_map (λ n. n % 65536 ∷ n / 65536 ∷ []) ns

pub cells_are : (hs : List (Halves ℕ)) (ns : List ℕ) → AllHalves hs ns → halves_cells hs ≡ number_cells ns
cells_are [] [] h = refl
cells_are [] (n ∷ ns) h = absurd h
cells_are (x ∷ hs) [] h = absurd h
cells_are (x ∷ hs) (n ∷ ns) h =
    let here : HalvesOf x n = h.0 in
    let lo = here.lo in
    let hi = here.hi in
    let rest = cells_are hs ns h.1 in
    λ i. lo i ∷ hi i ∷ rest i

pub cells_below : (hs : List (Halves ℕ)) (ns : List ℕ) → AllHalves hs ns → AllBelow (halves_cells hs)
cells_below [] [] h = tt
cells_below [] (n ∷ ns) h = absurd h
cells_below (x ∷ hs) [] h = absurd h
cells_below (x ∷ hs) (n ∷ ns) h =
    let here : HalvesOf x n = h.0 in
    (omega (arith, here.lo), (omega (arith, here.hi, here.below), cells_below hs ns h.1))

pub halves_append : (us vs : List (Halves ℕ)) (ns ms : List ℕ) → AllHalves us ns → AllHalves vs ms → AllHalves (us ++ vs) (ns ++ ms)
halves_append [] vs [] ms a b = b
halves_append [] vs (n ∷ ns) ms a b = absurd a
halves_append (u ∷ us) vs [] ms a b = absurd a
halves_append (u ∷ us) vs (n ∷ ns) ms a b = (a.0, halves_append us vs ns ms a.1 b)

pub halves_left : (us vs : List (Halves ℕ)) (ns ms : List ℕ) → length us ≡ length ns → AllHalves (us ++ vs) (ns ++ ms) → AllHalves us ns
halves_left [] vs [] ms e h = tt
halves_left [] vs (n ∷ ns) ms e h = absurd (omega (arith, e))
halves_left (u ∷ us) vs [] ms e h = absurd (omega (arith, e))
halves_left (u ∷ us) vs (n ∷ ns) ms e h = (h.0, halves_left us vs ns ms (omega (arith, e)) h.1)
