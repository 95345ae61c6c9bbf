-- What passes from row to row on a private bus: at a time and behind so many rounds, words by their halves.
use Rattle.std.specs.Prelude.{List, [], ◌∷◌, flat_map}
use Rattle.gadget_bits.specs.declared.halves.Halves.{Halves}

abbrev pub cells_of : {A : Type 0} → Halves A → List A
cells_of h = h.lo ∷ h.hi ∷ []

abbrev pub halves_cells : {A : Type 0} → List (Halves A) → List A
halves_cells words = flat_map cells_of words

abbrev pub stage_tuple : {A : Type 0} → A → A → List (Halves A) → List A
stage_tuple time level words = time ∷ level ∷ halves_cells words
