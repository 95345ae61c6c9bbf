-- Lookups of numbers in the range table.
use Rattle.std.specs.Prelude.{List, [], ◌∷◌, map}
use Rattle.air_core.specs.declared.bus.TheConstants.{RANGE}
use Rattle.air_core.specs.declared.event.Side.TheVariants.{Send}
use Rattle.air_core.specs.Ring.{Ring}

-- each number is looked up with so many bits, which are a number of the row too
abbrev pub range_lines : {A E : Type 0} → Ring A E → A → A → List A → List E
range_lines o count bits xs = map (λ x. o.event RANGE Send count (x ∷ bits ∷ [])) xs
