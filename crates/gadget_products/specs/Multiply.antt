-- The product of two words of four limbs, each extended to eight.
use Rattle.std.specs.Prelude.{ℕ, List, [], ◌∷◌, ◌++◌}
use Rattle.vm_field.specs.declared.limbs.Limbs.{Limbs}
use Rattle.vm_field.specs.Limbs.{list_of}
use Rattle.air_core.specs.Ring.{Ring}
use Rattle.gadget_products.specs.Product.{places}
use Rattle.gadget_products.specs.Carry.{carries}

-- the word, and four limbs 255 * g
unfoldable pub extended : {A E : Type 0} → Ring A E → A → Limbs A → List A
extended o g w = let e = o.times (o.number 255) g in list_of w ++ (e ∷ e ∷ e ∷ e ∷ [])

-- the carries of the product of b and c as the limbs of low and high
unfoldable pub product_carries : {A E : Type 0} → Ring A E → A → A → Limbs A → Limbs A → Limbs A → Limbs A → List A
product_carries o gb gc b c low high = carries o (o.number 0) (places o (extended o gb b) (extended o gc c) 0 8) (list_of low ++ list_of high)
