-- Rows as lists of numbers, and what was found of them.
use Rattle.std.specs.Prelude.{◌≡◌, ℕ, ◌↔◌, Bool, IsTrue, List, [], ◌∷◌, ◌++◌, ◌+◌, flat_map, length, map}
use Rattle.std.specs.List.{AllByRecursion}
use Rattle.std.specs.declared.vec.Vec.{Vec}
use Rattle.std.specs.declared.alloc.Global.{Global}
use Rattle.air_core.specs.declared.event.Event.{Event}
use Rattle.air_core.specs.ExtensionLaws.{SoundRow}
use Rattle.air_core.specs.Lookups.{Good}
use Rattle.air_core.specs.Orders.{Distinct}
use Rattle.air_core.specs.Balance.{Balanced}
use Rattle.air_core.specs.Sheet.{Sheet, IsRow, RowHolds, counted, row_events}
use Rattle.air_core.specs.Sink.{Handed}
use Rattle.air_core.specs.System.{System, EachRow, all_events, times_of}

-- the rows as lists
abbrev pub lists : List (Vec ℕ Global) → List (List ℕ)
lists rows = map (λ v. v.items) rows

-- the events of all rows were handed over, and the answer is whether each row holds
pub record RowsHanded {S : Type 0} (holds : S → List Event → Type 0) (room : S → ℕ) (old new : S) (sheet : Sheet) (rows : List (List ℕ)) (yes : Bool) : Type 0 where
  pub handed : Handed holds room old new (flat_map (row_events sheet) rows)
  pub right : IsTrue yes ↔ AllByRecursion (RowHolds sheet) rows

-- the tables as lists
abbrev pub all_lists : List (Vec (Vec ℕ Global) Global) → List (List (List ℕ))
all_lists [] = []
all_lists (t ∷ tables) = lists t.items ∷ all_lists tables

-- how many rows there are
abbrev pub rows_in : List (List (List ℕ)) → ℕ
rows_in [] = 0
rows_in (rows ∷ tables) = length rows + rows_in tables

abbrev pub IsWide : Sheet → List ℕ → Type 0
IsWide sheet row = length row ≡ sheet.width

-- every row holds, and all that the rows and others say balances
pub record HoldsAndBalances (system : System) (tables : List (List (List ℕ))) (others : List Event) : Type 0 where
  pub hold : EachRow RowHolds system.parts tables
  pub balanced : Balanced (counted others ++ all_events system.parts tables)

-- a row of field elements whose lookups and program tuple are good
abbrev pub IsFit : Sheet → List ℕ → Type 0
IsFit sheet row = IsRow sheet row × Good (row_events sheet row)

-- each row of a table that owns opcodes says nothing or is its instruction's meaning, if the rows are
-- fit and valid ones have different times
abbrev pub RowsMean : System → List (List (List ℕ)) → Type 0
RowsMean system tables = EachRow IsFit system.parts tables → Distinct (times_of (all_events system.parts tables)) → EachRow SoundRow system.parts tables
