-- The laws of the single path. Each is the contract of a function in src/laws.rt.
use Rattle.std.specs.Prelude.{◌≡◌, ℕ, ◌+◌, ◌^◌, ◌<◌, List, [], ◌∷◌, map, IsPermutation}
use Rattle.std.specs.List.{AllByRecursion}
use Rattle.vm_field.specs.Field.{modulus}
use Rattle.air_core.specs.declared.event.Event.{Event}
use Rattle.air_core.specs.Balance.{BalancedOn}
use Rattle.air_core.specs.Step.{on_bus}
use Rattle.exec_path.specs.Path.{Point, TimedRow, AddsSlots, PathBalanced, OnePath, slot_sum, row_from, row_to}
use Rattle.air_core.specs.Totals.{SameTotals, is_bus}
use Rattle.exec_path.specs.PathEvents.{execution_events}
use Rattle.exec_path.specs.Order.{IsOrder, path_row, rows_at}

-- Rows that add their slots in the field and balance with a start and an end are one path, where the
-- start's time and all slots stay below the modulus. (From p - 1 on a time can wrap, and the rows
-- balance all the same.)
abbrev pub BalancedRowsAreOnePath : Type 0
BalancedRowsAreOnePath = (start end : Point) (rows : List TimedRow) → AllByRecursion AddsSlots rows
    → start.time + slot_sum rows < modulus → PathBalanced start end rows → OnePath start end rows

-- where the execution bus balances, and its sums are those of the rows and the connector, the rows balance
abbrev pub BalancedEventsBalanceRows : Type 0
BalancedEventsBalanceRows = (start end : Point) (rows : List TimedRow) (events : List Event) → BalancedOn (is_bus 0) events
    → SameTotals 0 events (execution_events start end rows) → PathBalanced start end rows

-- a bus has the sums of its events, listed in any order
abbrev pub ListedEventsHaveTheSums : Type 0
ListedEventsHaveTheSums = (bus : ℕ) (events listed : List Event) → IsPermutation listed (on_bus bus events) → SameTotals bus events listed

-- the rows of an execution bus that balances are one path from a start at time 1
abbrev pub CheckedRowsAreOnePath : Type 0
CheckedRowsAreOnePath = (start end : Point) (rows : List TimedRow) (events : List Event) → AllByRecursion AddsSlots rows
    → start.time ≡ 1 → slot_sum rows < 2 ^ 29 → BalancedOn (is_bus 0) events
    → SameTotals 0 events (execution_events start end rows) → OnePath start end rows

-- the rows in their order of time are the path
abbrev pub OrderIsThePath : Type 0
OrderIsThePath = (start end : Point) (rows : List TimedRow) (one : OnePath start end rows) (places : List ℕ)
    → IsOrder (map path_row rows) places → rows_at rows places ≡ one.path

-- A row balances with a connector from where it begins to where it goes: what the laws ask can be met.
abbrev pub RowBalances : Type 0
RowBalances = (row : TimedRow) → BalancedOn (is_bus 0) (execution_events (row_from row) (row_to row) (row ∷ []))
