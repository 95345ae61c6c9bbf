-- What holds of each row of all tables.
use Rattle.std.proofs.Common.{◌≡◌, ℕ, ◌*◌, List, [], ◌∷◌, ◌++◌, length, map, refl, ap, ◌∙◌, arith}
use Rattle.std.specs.Prelude.{flat_map}
use Rattle.std.specs.List.{AllByRecursion}
use Rattle.std.proofs.lemmas.Grind.{flat_map-append}
use Rattle.std.proofs.lemmas.List.{map-append}
use Rattle.air_core.specs.declared.event.Event.{Event}
use Rattle.air_core.specs.Counts.{weight}
use Rattle.air_core.specs.ListLemmas.{all_append, all_left, all_right}
use Rattle.air_core.specs.Sheet.{Sheet, row_events}
use Rattle.air_core.specs.System.{Part, EachRow, all_events}
use Rattle.air_core.proofs.Counting.{weight-append}
use Rattle.acceptance.specs.Events.{said_by_rows}
use Rattle.acceptance.specs.Holds.{most_slots}

-- a row of a table
pub record SheetRow : Type 0 where
  pub sheet : Sheet
  pub row : List ℕ

abbrev pub row_of : Part → List ℕ → SheetRow
row_of p row = record { sheet = p.sheet; row = row }

abbrev pub said : SheetRow → List Event
said r = row_events r.sheet r.row

-- the rows of all tables, one after the other
abbrev pub all_rows : List Part → List (List (List ℕ)) → List SheetRow
all_rows [] tables = []
all_rows (p ∷ ps) [] = []
all_rows (p ∷ ps) (rows ∷ tables) = map (row_of p) rows ++ all_rows ps tables

-- ---- from one form to another

pub each_both : (P Q R : Sheet → List ℕ → Type 0) (ps : List Part) (tables : List (List (List ℕ))) → ((sheet : Sheet) (row : List ℕ) → P sheet row → Q sheet row → R sheet row)
    → EachRow P ps tables → EachRow Q ps tables → EachRow R ps tables
each_both P Q R [] tables f a b = tt
each_both P Q R (p ∷ ps) [] f a b = tt
each_both P Q R (p ∷ ps) (rows ∷ tables) f a b = (in_table rows a.0 b.0, each_both P Q R ps tables f a.1 b.1)
  where
    in_table : (rows : List (List ℕ)) → AllByRecursion (P p.sheet) rows → AllByRecursion (Q p.sheet) rows → AllByRecursion (R p.sheet) rows
    in_table [] a b = tt
    in_table (row ∷ rows) a b = (f p.sheet row a.0 b.0, in_table rows a.1 b.1)

-- with what holds of each table
pub each_with : (O : Part → Type 0) (P Q : Sheet → List ℕ → Type 0) (ps : List Part) (tables : List (List (List ℕ))) → ((p : Part) (row : List ℕ) → O p → P p.sheet row → Q p.sheet row)
    → AllByRecursion O ps → EachRow P ps tables → EachRow Q ps tables
each_with O P Q [] tables f o a = tt
each_with O P Q (p ∷ ps) [] f o a = tt
each_with O P Q (p ∷ ps) (rows ∷ tables) f o a = (in_table rows a.0, each_with O P Q ps tables f o.1 a.1)
  where
    in_table : (rows : List (List ℕ)) → AllByRecursion (P p.sheet) rows → AllByRecursion (Q p.sheet) rows
    in_table [] a = tt
    in_table (row ∷ rows) a = (f p row o.0 a.0, in_table rows a.1)

-- what holds of all events
pub events_each : (P : Event → Type 0) (ps : List Part) (tables : List (List (List ℕ))) → AllByRecursion P (all_events ps tables) → EachRow (λ sheet row. AllByRecursion P (row_events sheet row)) ps tables
events_each P [] tables a = tt
events_each P (p ∷ ps) [] a = tt
events_each P (p ∷ ps) (rows ∷ tables) a =
    (in_table rows (all_left P (flat_map (row_events p.sheet) rows) (all_events ps tables) a), events_each P ps tables (all_right P (flat_map (row_events p.sheet) rows) (all_events ps tables) a))
  where
    in_table : (rows : List (List ℕ)) → AllByRecursion P (flat_map (row_events p.sheet) rows) → AllByRecursion (λ row. AllByRecursion P (row_events p.sheet row)) rows
    in_table [] a = tt
    in_table (row ∷ rows) a =
        (all_left P (row_events p.sheet row) (flat_map (row_events p.sheet) rows) a, in_table rows (all_right P (row_events p.sheet row) (flat_map (row_events p.sheet) rows) a))

-- and where it holds of any row of a table
pub events_any : (P : Event → Type 0) (ps : List Part) (tables : List (List (List ℕ))) → AllByRecursion (λ p. (row : List ℕ) → AllByRecursion P (row_events p.sheet row)) ps → AllByRecursion P (all_events ps tables)
events_any P [] tables a = tt
events_any P (p ∷ ps) [] a = tt
events_any P (p ∷ ps) (rows ∷ tables) a = all_append P (flat_map (row_events p.sheet) rows) (all_events ps tables) (in_table rows) (events_any P ps tables a.1)
  where
    in_table : (rows : List (List ℕ)) → AllByRecursion P (flat_map (row_events p.sheet) rows)
    in_table [] = tt
    in_table (row ∷ rows) = all_append P (row_events p.sheet row) (flat_map (row_events p.sheet) rows) (a.0 row) (in_table rows)

-- ---- row by row

pub rows_each : (P : Sheet → List ℕ → Type 0) (ps : List Part) (tables : List (List (List ℕ))) → EachRow P ps tables → AllByRecursion (λ r. P r.sheet r.row) (all_rows ps tables)
rows_each P [] tables a = tt
rows_each P (p ∷ ps) [] a = tt
rows_each P (p ∷ ps) (rows ∷ tables) a = all_append (λ (r : SheetRow). P r.sheet r.row) (map (row_of p) rows) (all_rows ps tables) (in_table rows a.0) (rows_each P ps tables a.1)
  where
    in_table : (rows : List (List ℕ)) → AllByRecursion (P p.sheet) rows → AllByRecursion (λ (r : SheetRow). P r.sheet r.row) (map (row_of p) rows)
    in_table [] a = tt
    in_table (row ∷ rows) a = (a.0, in_table rows a.1)

said_in_table : (p : Part) (rows : List (List ℕ)) → flat_map said (map (row_of p) rows) ≡ flat_map (row_events p.sheet) rows
said_in_table p [] = refl
said_in_table p (row ∷ rows) = ap (λ (es : List Event). row_events p.sheet row ++ es) (said_in_table p rows)

pub events_are : (ps : List Part) (tables : List (List (List ℕ))) → flat_map said (all_rows ps tables) ≡ all_events ps tables
events_are [] tables = refl
events_are (p ∷ ps) [] = refl
events_are (p ∷ ps) (rows ∷ tables) =
    flat_map-append said (map (row_of p) rows) (all_rows ps tables)
    ∙ ap (λ (es : List Event). es ++ flat_map said (all_rows ps tables)) (said_in_table p rows)
    ∙ ap (λ (es : List Event). flat_map (row_events p.sheet) rows ++ es) (events_are ps tables)

listed_in_table : (p : Part) (rows : List (List ℕ)) → map said (map (row_of p) rows) ≡ map (row_events p.sheet) rows
listed_in_table p [] = refl
listed_in_table p (row ∷ rows) = ap (λ (es : List (List Event)). row_events p.sheet row ∷ es) (listed_in_table p rows)

pub said_are : (ps : List Part) (tables : List (List (List ℕ))) → map said (all_rows ps tables) ≡ said_by_rows ps tables
said_are [] tables = refl
said_are (p ∷ ps) [] = refl
said_are (p ∷ ps) (rows ∷ tables) =
    map-append said (map (row_of p) rows) (all_rows ps tables)
    ∙ ap (λ (es : List (List Event)). es ++ map said (all_rows ps tables)) (listed_in_table p rows)
    ∙ ap (λ (es : List (List Event)). map (row_events p.sheet) rows ++ es) (said_are ps tables)

abbrev pub slots_of_row : SheetRow → ℕ
slots_of_row r = r.sheet.slots

slots_in_table : (p : Part) (rows : List (List ℕ)) → weight slots_of_row (map (row_of p) rows) ≡ length rows * p.sheet.slots
slots_in_table p [] = omega arith
slots_in_table p (row ∷ rows) = omega (arith, slots_in_table p rows)

pub slots_are : (ps : List Part) (tables : List (List (List ℕ))) → weight slots_of_row (all_rows ps tables) ≡ most_slots ps tables
slots_are [] tables = refl
slots_are (p ∷ ps) [] = refl
slots_are (p ∷ ps) (rows ∷ tables) = omega (arith, weight-append slots_of_row (map (row_of p) rows) (all_rows ps tables), slots_in_table p rows, slots_are ps tables)
