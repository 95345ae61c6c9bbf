-- What an extension is: its tables, the buses of its own, and what a record fills.
use Rattle.std.specs.Prelude.{◌≡◌, ℕ, ◌+◌, Bool, true, false, ◌&&◌, ◌||◌, nat_eq, if◌then◌else◌, List, [], ◌∷◌, ◌++◌, flat_map, map, length, Option, Some, None, slice_index}
use Rattle.std.specs.List.{AllByRecursion, range_with_len, slice_index_or}
use Rattle.vm_isa.specs.declared.record.StepRecord.{StepRecord}
use Rattle.air_core.specs.declared.event.Event.{Event}
use Rattle.air_core.specs.declared.event.Side.TheVariants.{Receive}
use Rattle.air_core.specs.Balance.{BalancedOn, same_side}
use Rattle.air_core.specs.Lookups.{Good}
use Rattle.air_core.specs.Orders.{Distinct}
use Rattle.air_core.specs.Sheet.{Sheet, IsRow, RowHolds, row_events}

-- one table of an extension
pub record Part : Type 0 where
  pub sheet : Sheet
  -- how many of its rows a record fills
  pub rows_for : StepRecord → ℕ

pub record System : Type 0 where
  pub parts : List Part
  -- the buses of its own
  pub private : ℕ → Bool
  -- times are at most 2 to this
  pub time_bits : ℕ

-- ---- a table by its number

abbrev pub no_sheet : Sheet
no_sheet = record {
  width = 0;
  slots = 0;
  rows = 0;
  time_bits = 0;
  first_flag = 0;
  flags = 0;
  owns = λ _. false;
  takes = λ _. false;
  alone = true;
  constraints = λ _. [];
  lines = λ _. [];
  filled = λ _ _. [];
}

-- what stands at a number behind the last
abbrev pub no_part : Part
no_part = record { sheet = no_sheet; rows_for = λ _. 0 }

abbrev pub part_at : System → ℕ → Part
part_at x table = slice_index_or x.parts table no_part

abbrev pub sheet_at : System → ℕ → Sheet
sheet_at x table = (part_at x table).sheet

abbrev pub rows_at : System → ℕ → StepRecord → ℕ
rows_at x table done = (part_at x table).rows_for done

-- one of these tables owns an opcode
abbrev pub is_owned : List Part → ℕ → Bool
is_owned [] op = false
is_owned (p ∷ ps) op = p.sheet.owns op || is_owned ps op

-- a table behind n others
abbrev pub behind : ℕ → Option ℕ → Option ℕ
behind n None = None
behind n (Some table) = Some (n + table)

-- the first of these tables that owns an opcode
abbrev pub owner_in : List Part → ℕ → Option ℕ
owner_in [] op = None
owner_in (p ∷ ps) op = if p.sheet.owns op then Some 0 else behind 1 (owner_in ps op)

-- ---- the rows of all tables, table by table

-- the events of all rows
abbrev pub all_events : List Part → List (List (List ℕ)) → List Event
all_events [] tables = []
all_events (p ∷ ps) [] = []
all_events (p ∷ ps) (rows ∷ tables) = flat_map (row_events p.sheet) rows ++ all_events ps tables

-- P of each row of each table, with its sheet
abbrev pub EachRow : (Sheet → List ℕ → Type 0) → List Part → List (List (List ℕ)) → Type 0
EachRow P [] tables = Unit {0}
EachRow P (p ∷ ps) [] = Unit {0}
EachRow P (p ∷ ps) (rows ∷ tables) = AllByRecursion (P p.sheet) rows × EachRow P ps tables

-- a row that holds, and whose lookups and program tuple are good
pub record GoodRow (sheet : Sheet) (row : List ℕ) : Type 0 where
  pub is_row : IsRow sheet row
  pub holds : RowHolds sheet row
  pub good : Good (row_events sheet row)

-- the time of an event that receives on the execution bus, as a valid row does once
abbrev pub time_if : Event → List ℕ
time_if e = if nat_eq e.bus 0 && same_side e.side Receive then slice_index e.tuple 1 ∷ [] else []

-- the times of valid rows
abbrev pub times_of : List Event → List ℕ
times_of events = flat_map time_if events

-- These are rows of all tables of an extension: every row holds and its lookups are good, the events
-- of all rows balance on the private buses, and valid rows have different times.
pub record Whole (x : System) (tables : List (List (List ℕ))) : Type 0 where
  pub count : length tables ≡ length x.parts
  pub rows : EachRow GoodRow x.parts tables
  pub balanced : BalancedOn x.private (all_events x.parts tables)
  pub times : Distinct (times_of (all_events x.parts tables))

-- ---- the rows that a record fills

abbrev pub rows_of : StepRecord → Part → List (List ℕ)
rows_of done p = map (λ place. p.sheet.filled done place) (range_with_len 0 (p.rows_for done))

abbrev pub tables_for : StepRecord → List Part → List (List (List ℕ))
tables_for done parts = map (λ p. rows_of done p) parts
