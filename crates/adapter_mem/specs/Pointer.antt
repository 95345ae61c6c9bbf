-- PTR: the sum of two words below 2 ^ 29, by two halves, and what is left of it by a divisor.
use Rattle.std.specs.Prelude.{ℕ, List, [], ◌∷◌}
use Rattle.vm_field.specs.declared.limbs.Limbs.{Limbs}
use Rattle.air_core.specs.First.{bit}
use Rattle.air_core.specs.Ring.{Ring}

unfoldable pub low_half : {A E : Type 0} → Ring A E → Limbs A → A
low_half o w = o.plus w.x0 (o.times (o.number 256) w.x1)

unfoldable pub high_half : {A E : Type 0} → Ring A E → Limbs A → A
high_half o w = o.plus w.x2 (o.times (o.number 256) w.x3)

-- (x + y + carry - m) / 65536, where 2013235201 is the inverse of 65536
unfoldable pub half_out : {A E : Type 0} → Ring A E → A → A → A → A → A
half_out o x y carry m = o.times (o.minus (o.plus (o.plus x y) carry) m) (o.number 2013235201)

abbrev pub low_out : {A E : Type 0} → Ring A E → Limbs A → Limbs A → A → A
low_out o b i m0 = half_out o (low_half o b) (low_half o i) (o.number 0) m0

abbrev pub high_out : {A E : Type 0} → Ring A E → Limbs A → Limbs A → A → A → A
high_out o b i m0 m1 = half_out o (high_half o b) (high_half o i) (low_out o b i m0) m1

unfoldable pub pointer_constraints : {A E : Type 0} → Ring A E → Limbs A → Limbs A → A → A → List A
pointer_constraints o b i m0 m1 = bit o (low_out o b i m0) ∷ bit o (high_out o b i m0 m1) ∷ []

-- (m0 - h) / d, by the inverse of d: looked up in 14 bits where d is 4, in 15 where it is 2
unfoldable pub part : {A E : Type 0} → Ring A E → ℕ → A → A → A
part o inverse m0 h = o.times (o.minus m0 h) (o.number inverse)

-- m0 + 65536 * m1 - h
unfoldable pub pointer : {A E : Type 0} → Ring A E → A → A → A → A
pointer o m0 m1 h = o.minus (o.plus m0 (o.times (o.number 65536) m1)) h
