-- What follows from the definitions.
use Rattle.std.specs.Prelude.{◌≡◌, ℕ, List, ◌++◌}
use Rattle.elf_image.specs.Loaded.{Loaded}
use Rattle.rv_run.specs.declared.outcome.RunEnd.{RunEnd}
use Rattle.rv_run.specs.Machine.{Machine}
use Rattle.rv_run.specs.Run.{Goes, IsRunEnd}

-- a run under a limit has one end
abbrev pub RunEndIsOne : Type 0
RunEndIsOne = (loaded : Loaded) (hints : List ℕ) (limit : ℕ) (a b : RunEnd)
    → IsRunEnd loaded hints limit a → IsRunEnd loaded hints limit b → a ≡ b

-- A run depends on the hint bytes that it takes, and on no others: with other bytes behind them it goes
-- the same way, and those are left.
abbrev pub RunTakesHints : Type 0
RunTakesHints = (loaded : Loaded) (hints : List ℕ) (n : ℕ) (m : Machine) → Goes loaded hints n m
    → (used : List ℕ) × (hints ≡ used ++ m.hints) × ((rest : List ℕ) → Goes loaded (used ++ rest) n (record m { hints = rest }))
