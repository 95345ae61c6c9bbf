-- The places of a product by limbs.
use Rattle.std.specs.Prelude.{ℕ, zero, suc, List, [], ◌∷◌}
use Rattle.air_core.specs.Ring.{Ring, cell}

-- place i: the sum of b_j * c_(i - j), for all j up to i; limbs past the end are 0
unfoldable pub place : {A E : Type 0} → Ring A E → List A → List A → ℕ → A
place o [] cs i = o.number 0
place o (b ∷ bs) cs zero = o.times b (cell o cs 0)
place o (b ∷ bs) cs (suc i) = o.plus (o.times b (cell o cs (suc i))) (place o bs cs i)

-- n places, from place i on
unfoldable pub places : {A E : Type 0} → Ring A E → List A → List A → ℕ → ℕ → List A
places o bs cs i zero = []
places o bs cs i (suc n) = place o bs cs i ∷ places o bs cs (suc i) n
