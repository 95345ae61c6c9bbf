-- The rows that records fill, in all tables.
use Rattle.std.specs.Prelude.{◌≡◌, ℕ, ◌+◌, ◌^◌, ◌≤◌, List, [], ◌∷◌, ◌++◌, flat_map, length, replicate}
use Rattle.vm_isa.specs.declared.record.StepRecord.{StepRecord}
use Rattle.air_core.specs.Sheet.{Sheet}
use Rattle.air_core.specs.System.{Part, rows_of}

-- the rows of a table that records fill, in the order of the records and then of place
abbrev pub filled_rows : List StepRecord → Part → List (List ℕ)
filled_rows done p = flat_map (λ d. rows_of d p) done

abbrev pub zero_row : Sheet → List ℕ
zero_row sheet = replicate sheet.width 0

-- and so many rows of zeros behind them
abbrev pub then_zero_rows : Sheet → ℕ → List (List ℕ) → List (List ℕ)
then_zero_rows sheet more rows = rows ++ replicate more (zero_row sheet)

-- The height of a table of so many rows: 0 for none, else the least power of two that holds them.
pub record IsHeight (rows height : ℕ) : Type 0 where
  pub none : rows ≡ 0 → height ≡ 0
  pub power : 1 ≤ rows → (k : ℕ) × (height ≡ 2 ^ k)
  pub holds : rows ≤ height
  pub least : (k : ℕ) → rows ≤ 2 ^ k → height ≤ 2 ^ k

-- The rows that records fill in a table, and then rows of zeros up to its height.
pub record IsFilledTable (done : List StepRecord) (p : Part) (rows : List (List ℕ)) : Type 0 where
  pub more : ℕ
  pub are : rows ≡ then_zero_rows p.sheet more (filled_rows done p)
  pub height : IsHeight (length (filled_rows done p)) (length (filled_rows done p) + more)

-- table by table
abbrev pub AreFilledTables : List StepRecord → List Part → List (List (List ℕ)) → Type 0
AreFilledTables done [] [] = Unit {0}
AreFilledTables done [] (rows ∷ tables) = ⊥
AreFilledTables done (p ∷ parts) [] = ⊥
AreFilledTables done (p ∷ parts) (rows ∷ tables) = IsFilledTable done p rows × AreFilledTables done parts tables
