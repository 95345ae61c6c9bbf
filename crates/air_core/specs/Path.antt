-- The events that each instruction table has alike.
use Rattle.std.specs.Prelude.{ℕ, List, [], ◌∷◌}
use Rattle.air_core.specs.declared.bus.TheConstants.{EXECUTION, PROGRAM}
use Rattle.air_core.specs.declared.event.Side.TheVariants.{Send, Receive}
use Rattle.air_core.specs.Ring.{Ring}

-- the step on the execution bus, and the program row
unfoldable pub path_lines : {A E : Type 0} → Ring A E → A → A → A → A → ℕ → List A → List E
path_lines o valid pc time next slots numbers =
    o.event EXECUTION Receive valid (pc ∷ time ∷ [])
    ∷ o.event EXECUTION Send valid (next ∷ o.plus time (o.number slots) ∷ [])
    ∷ o.event PROGRAM Send valid numbers
    ∷ []
