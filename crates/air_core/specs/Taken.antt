-- What is told of a row that was not taken.
use Rattle.std.specs.Prelude.{◌≡◌, ℕ, Option, Some, None}
use Rattle.air_core.specs.declared.row_error.RowError.{RowError}
use Rattle.air_core.specs.declared.row_error.RowError.TheVariants.{Broken, OutOfMemory}

-- By the first constraint that is broken: it is told, and nothing was handed over; or none is, memory ran out, and some was.
abbrev pub Refuses : Option ℕ → Type 0 → Type 0 → RowError → Type 0
Refuses first nothing some (Broken constraint) = (first ≡ Some constraint) × nothing
Refuses first nothing some OutOfMemory = (first ≡ None) × some
