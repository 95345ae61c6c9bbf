-- ADD: the sum of two numbers by their limbs, as constraints on field elements.
use Rattle.std.specs.Prelude.{List, [], ◌∷◌}
use Rattle.air_core.specs.Ring.{Ring}
use Rattle.air_core.specs.First.{bit}

-- the carry out of one limb, (x + y + carry - z) / 256, where 2005401601 is the inverse of 256
unfoldable pub carry_out : {A E : Type 0} → Ring A E → A → A → A → A → A
carry_out o x y carry z = o.times (o.minus (o.plus (o.plus x y) carry) z) (o.number 2005401601)

-- gate * carry * (carry - 1)
unfoldable pub gated_bit : {A E : Type 0} → Ring A E → A → A → A
gated_bit o gate carry = o.times gate (bit o carry)

-- the constraints from the lowest limb on, with a carry into it
unfoldable pub sum_constraints : {A E : Type 0} → Ring A E → A → A → List A → List A → List A → List A
sum_constraints o gate carry (x ∷ xs) (y ∷ ys) (z ∷ zs) =
    let k = carry_out o x y carry z in
    gated_bit o gate k ∷ sum_constraints o gate k xs ys zs
sum_constraints o gate carry _ _ _ = []
