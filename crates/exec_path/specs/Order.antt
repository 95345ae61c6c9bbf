-- The places of rows in the order of time.
use Rattle.std.specs.Prelude.{◌≡◌, ℕ, ◌<◌, ◌⊎◌, List, length, slice_index_or, map}
use Rattle.std.specs.List.{AllAdjacentBelow, range_with_len}
use Rattle.std.specs.List.Sorted.{IsPermutation}
use Rattle.exec_path.specs.declared.order.PathRow.{PathRow}
use Rattle.exec_path.specs.Path.{TimedRow}

-- the row of no place
abbrev pub no_row : PathRow
no_row = record { from_pc = 0; from_time = 0; to_pc = 0; to_time = 0 }

-- the time at which the row at a place begins
abbrev pub time_at : List PathRow → ℕ → ℕ
time_at rows place = (slice_index_or rows place no_row).from_time

-- a place stands before another: its time is earlier, or equal and the place is
abbrev pub StandsBefore : List PathRow → ℕ → ℕ → Type 0
StandsBefore rows i j = (time_at rows i < time_at rows j) ⊎ ((time_at rows i ≡ time_at rows j) × (i < j))

-- all places of the rows, each before the next
pub record IsOrder (rows : List PathRow) (places : List ℕ) : Type 0 where
  pub same_places : IsPermutation (range_with_len 0 (length rows)) places
  pub in_order : AllAdjacentBelow (StandsBefore rows) places (length places)

-- the four numbers of a row
abbrev pub path_row : TimedRow → PathRow
path_row row = record { from_pc = row.from_pc; from_time = row.from_time; to_pc = row.to_pc; to_time = row.to_time }

-- the row of no place, with slots
abbrev pub no_timed_row : TimedRow
no_timed_row = record { from_pc = 0; from_time = 0; to_pc = 0; to_time = 0; slots = 0 }

-- the rows at these places
abbrev pub rows_at : List TimedRow → List ℕ → List TimedRow
rows_at rows places = map (λ place. slice_index_or rows place no_timed_row) places
