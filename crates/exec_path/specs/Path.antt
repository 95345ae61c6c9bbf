-- Rows that each go from one point in time to another, and the one path that they make.
use Rattle.std.specs.Prelude.{◌≡◌, ℕ, ◌+◌, ◌≤◌, Bool, ◌&&◌, nat_eq, List, [], ◌∷◌, map}
use Rattle.std.specs.List.{AllByRecursion}
use Rattle.std.specs.List.Sorted.{IsPermutation}
use Rattle.vm_field.specs.Field.{field_add}
use Rattle.air_core.specs.Counts.{weight, count_of}
use Rattle.air_core.specs.Orders.{Ascends, Rises}

-- a pc and a time
pub record Point : Type 0 where
  pub pc : ℕ
  pub time : ℕ

-- a valid row: where it begins, where it goes, and how many slots of time it takes
pub record TimedRow : Type 0 where
  pub from_pc : ℕ
  pub from_time : ℕ
  pub to_pc : ℕ
  pub to_time : ℕ
  pub slots : ℕ

abbrev pub row_from : TimedRow → Point
row_from row = record { pc = row.from_pc; time = row.from_time }

abbrev pub row_to : TimedRow → Point
row_to row = record { pc = row.to_pc; time = row.to_time }

-- the test for equal points
abbrev pub same_point : Point → Point → Bool
same_point a b = nat_eq a.pc b.pc && nat_eq a.time b.time

-- the row has a slot, and adds its slots in the field
pub record AddsSlots (row : TimedRow) : Type 0 where
  pub some : 1 ≤ row.slots
  pub adds : row.to_time ≡ field_add row.from_time row.slots

-- the slots of all rows
abbrev pub slot_sum : List TimedRow → ℕ
slot_sum rows = weight (λ row. row.slots) rows

-- The start and the rows that go to a point are as many as the end and the rows that begin there.
pub record PathBalanced (start end : Point) (rows : List TimedRow) : Type 0 where
  pub counts : (x : Point) → count_of same_point x (start ∷ map row_to rows) ≡ count_of same_point x (end ∷ map row_from rows)

-- the first row begins at the start, each next one where the last one went, and the last one goes to the end
abbrev pub IsPath : Point → List TimedRow → Point → Type 0
IsPath start [] end = start ≡ end
IsPath start (row ∷ rows) end = (row_from row ≡ start) × IsPath (row_to row) rows end

-- The rows are one path from the start to the end: no time wraps, and in the order of their times they
-- follow each other, each once.
pub record OnePath (start end : Point) (rows : List TimedRow) : Type 0 where
  pub no_wrap : AllByRecursion (λ row. row.to_time ≡ row.from_time + row.slots) rows
  pub ends : end.time ≡ start.time + slot_sum rows
  pub path : List TimedRow
  pub same_rows : IsPermutation rows path
  pub is_path : IsPath start path end
  pub rises : Rises (λ row. row.from_time) path
  pub sorted : (list : List TimedRow) → IsPermutation rows list → Ascends (λ row. row.from_time) list → list ≡ path
