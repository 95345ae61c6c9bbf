-- What is looked up in the xor table of one limb of a result. A sum or a difference looks up its own limb
-- twice, so that it is a byte; a bitwise operation looks up the limbs of its words, and their xor by the result.
use Rattle.std.specs.Prelude.{List, [], ◌∷◌}
use Rattle.vm_field.specs.declared.limbs.Limbs.{Limbs}
use Rattle.air_core.specs.declared.bus.TheConstants.{XOR}
use Rattle.air_core.specs.declared.event.Side.TheVariants.{Send}
use Rattle.air_core.specs.Ring.{Ring}
use Rattle.gadget_limbs.specs.declared.lookup.OperationFlags.{OperationFlags}

-- sums * a + (valid - sums) * b
unfoldable pub choose : {A E : Type 0} → Ring A E → A → A → A → A → A
choose o valid sums a b = o.plus (o.times sums a) (o.times (o.minus valid sums) b)

-- xor * a + or * (2a - b - c) + and * (b + c - 2a)
unfoldable pub mixed : {A E : Type 0} → Ring A E → A → A → A → A → A → A → A
mixed o xor or and a b c =
    let twice = o.times (o.number 2) a in
    o.plus (o.plus (o.times xor a) (o.times or (o.minus (o.minus twice b) c))) (o.times and (o.minus (o.plus b c) twice))

-- of the limb a, where b and c are those of the two words
unfoldable pub looked_up : {A E : Type 0} → Ring A E → OperationFlags A → A → A → A → List A
looked_up o f a b c = choose o f.valid f.sums a b ∷ choose o f.valid f.sums a c ∷ mixed o f.xor f.or f.and a b c ∷ []

-- the lookups of the limbs of a word
abbrev pub lookup_line : {A E : Type 0} → Ring A E → OperationFlags A → A → A → A → E
lookup_line o f a b c = o.event XOR Send f.valid (looked_up o f a b c)

abbrev pub lookup_lines : {A E : Type 0} → Ring A E → OperationFlags A → Limbs A → Limbs A → Limbs A → List E
lookup_lines o f a b c = lookup_line o f a.x0 b.x0 c.x0 ∷ lookup_line o f a.x1 b.x1 c.x1 ∷ lookup_line o f a.x2 b.x2 c.x2 ∷ lookup_line o f a.x3 b.x3 c.x3 ∷ []
