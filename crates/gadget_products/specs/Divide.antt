-- The division of a word by a word: the divisor's product with the quotient, and the remainder.
use Rattle.std.specs.Prelude.{ℕ, Bool, true, false, not, List, [], ◌∷◌, ◌++◌}
use Rattle.vm_field.specs.declared.limbs.Limbs.{Limbs}
use Rattle.vm_field.specs.Limbs.{list_of}
use Rattle.air_core.specs.Ring.{Ring}
use Rattle.gadget_products.specs.Product.{places}
use Rattle.gadget_products.specs.Carry.{carries, last_carry}

-- the sums of two lists, place by place
unfoldable pub added : {A E : Type 0} → Ring A E → List A → List A → List A
added o (x ∷ xs) (y ∷ ys) = o.plus x y ∷ added o xs ys
added o _ _ = []

abbrev pub six : {A E : Type 0} → Ring A E → Limbs A → List A
six o w = list_of w ++ (o.number 0 ∷ o.number 0 ∷ [])

-- the six lowest places of c * q + r
unfoldable pub division_sums : {A E : Type 0} → Ring A E → Limbs A → Limbs A → Limbs A → List A
division_sums o c q r = added o (places o (list_of c) (list_of q) 0 6) (six o r)

unfoldable pub division_carries : {A E : Type 0} → Ring A E → Limbs A → Limbs A → Limbs A → Limbs A → List A
division_carries o b c q r = carries o (o.number 0) (division_sums o c q r) (six o b)

-- the highest place and the last carry are 0
unfoldable pub division_top : {A E : Type 0} → Ring A E → Limbs A → Limbs A → Limbs A → Limbs A → A
division_top o b c q r = o.plus (o.times c.x3 q.x3) (last_carry o (o.number 0) (division_sums o c q r) (six o b))

-- exactly one of the two
abbrev pub differ : Bool → Bool → Bool
differ true s = not s
differ false s = s
