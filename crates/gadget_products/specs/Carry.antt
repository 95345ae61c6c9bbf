-- Carries from limb to limb, where sums are written as limbs.
use Rattle.std.specs.Prelude.{ℕ, List, [], ◌∷◌}
use Rattle.air_core.specs.Ring.{Ring}
use Rattle.gadget_limbs.specs.Ranges.{range_lines}

-- (sum + carry - limb) / 256, where 2005401601 is the inverse of 256
unfoldable pub carry_out : {A E : Type 0} → Ring A E → A → A → A → A
carry_out o sum carry limb = o.times (o.minus (o.plus sum carry) limb) (o.number 2005401601)

-- the carries out of each limb, from the lowest on, with a carry into it
unfoldable pub carries : {A E : Type 0} → Ring A E → A → List A → List A → List A
carries o k (s ∷ sums) (q ∷ limbs) =
    let out = carry_out o s k q in
    out ∷ carries o out sums limbs
carries o k _ _ = []

-- the carry out of the last limb
unfoldable pub last_carry : {A E : Type 0} → Ring A E → A → List A → List A → A
last_carry o k (s ∷ sums) (q ∷ limbs) = last_carry o (carry_out o s k q) sums limbs
last_carry o k _ _ = k

-- carries are looked up with 11 bits
abbrev pub carry_lines : {A E : Type 0} → Ring A E → A → List A → List E
carry_lines o count ks = range_lines o count (o.number 11) ks
