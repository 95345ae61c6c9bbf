-- Lists of bytes.
use Rattle.std.specs.Prelude.{ℕ, ◌<◌, List}
use Rattle.std.specs.List.{AllByRecursion}

-- each element is a byte
abbrev pub IsBytes : List ℕ → Type 0
IsBytes xs = AllByRecursion (λ x. x < 256) xs
