-- SIGN and NEG: the sign bit of a word, and the negative of a number by its limbs.
use Rattle.std.specs.Prelude.{List, [], ◌∷◌, ◌++◌, length, replicate}
use Rattle.air_core.specs.First.{bit}
use Rattle.air_core.specs.Ring.{Ring}
use Rattle.gadget_limbs.specs.Sum.{sum_constraints}

-- g * (g - 1), (1 - gate) * g
unfoldable pub sign_constraints : {A E : Type 0} → Ring A E → A → A → List A
sign_constraints o g gate = bit o g ∷ o.times (o.minus (o.number 1) gate) g ∷ []

-- what is looked up in the xor table of the top limb: x, 128, x + 128 - 256 * g
unfoldable pub sign_looked_up : {A E : Type 0} → Ring A E → A → A → List A
sign_looked_up o g x = x ∷ o.number 128 ∷ o.minus (o.plus x (o.number 128)) (o.times (o.number 256) g) ∷ []

-- (1 - gate) * (x - y) for each limb
unfoldable pub same_constraints : {A E : Type 0} → Ring A E → A → List A → List A → List A
same_constraints o gate (x ∷ xs) (y ∷ ys) = o.times (o.minus (o.number 1) gate) (o.minus x y) ∷ same_constraints o gate xs ys
same_constraints o gate _ _ = []

-- and under the gate both sum to 0 but for a last carry
unfoldable pub negative_constraints : {A E : Type 0} → Ring A E → A → List A → List A → List A
negative_constraints o gate xs ys = same_constraints o gate xs ys ++ sum_constraints o gate (o.number 0) xs ys (replicate (length xs) (o.number 0))
