-- Tables with rows more, and the rows that are filled.
use Rattle.std.proofs.Common.{◌≡◌, ℕ, zero, suc, ◌+◌, ◌*◌, ◌<◌, ◌≤◌, List, [], ◌∷◌, ◌++◌, map, set, get_or, length, length-append, append-nil, append_assoc, refl, sym, ap, ◌∙◌, subst, arith}
use Rattle.std.specs.Prelude.{flat_map, replicate, take}
use Rattle.std.specs.List.{range_with_len}
use Rattle.std.proofs.lemmas.List.{get_or-set_same, set-get_or, length-set, take_more, take_all}
use Rattle.std.proofs.lemmas.Grind.{flat_map-append}
use Rattle.std.proofs.lemmas.List.FromFn.{length-map-range_with_len}
use Rattle.vm_isa.specs.declared.record.StepRecord.{StepRecord}
use Rattle.air_core.specs.declared.event.Event.{Event}
use Rattle.vm_trace.specs.Contents.{Contents, TableRows, table_at, with_last, with_row}
use Rattle.air_core.specs.ExtensionLaws.{ExtensionBuses, ExtensionRows, PartRows}
use Rattle.air_core.specs.Sheet.{Sheet, row_events}
use Rattle.air_core.specs.System.{System, Part, part_at, sheet_at, rows_of}
use Rattle.air_core.proofs.ExtensionLemmas.{few_events, part_has}
use Rattle.air_core.specs.Sink.{Handed}
use Rattle.vm_filler.specs.Tables.{filled_rows, zero_row, IsHeight}
use Rattle.vm_filler.specs.Filling.{with_rows, TableFilled}
use Rattle.vm_filler.specs.Lookups.{LookupCounts, CountLookups, events_left}
use Rattle.vm_filler.proofs.Limits.{rows_length}
use Rattle.vm_filler.proofs.TablesLemmas.{no_table}

abbrev same_but : Contents → List TableRows → Contents
same_but c tables = record { tables = tables; program = c.program; xor = c.xor; range = c.range; constants = c.constants }

set_twice : (xs : List TableRows) (i : ℕ) (a b : TableRows) → set (set xs i a) i b ≡ set xs i b
set_twice [] i a b = refl
set_twice (x ∷ xs) zero a b = refl
set_twice (x ∷ xs) (suc i) a b = ap (λ (t : List TableRows). x ∷ t) (set_twice xs i a b)

pub with_rows_length : (c : Contents) (table : ℕ) (rows : List (List ℕ)) → length (with_rows c table rows).tables ≡ length c.tables
with_rows_length c table rows = length-set c.tables table (record { width = (table_at c table).width; rows = (table_at c table).rows ++ rows })

pub with_rows_at : (c : Contents) (table : ℕ) (rows : List (List ℕ)) → table < length c.tables
    → table_at (with_rows c table rows) table ≡ record { width = (table_at c table).width; rows = (table_at c table).rows ++ rows }
with_rows_at c table rows low = get_or-set_same c.tables table (record { width = (table_at c table).width; rows = (table_at c table).rows ++ rows }) no_table low

pub with_rows_none : (c : Contents) (table : ℕ) → with_rows c table [] ≡ c
with_rows_none c table =
    let make : List (List ℕ) → TableRows = λ rows. record { width = (table_at c table).width; rows = rows } in
    ap (λ (rows : List (List ℕ)). same_but c (set c.tables table (make rows))) (append-nil (table_at c table).rows) ∙ ap (same_but c) (set-get_or c.tables table no_table)

-- a row more
pub with_rows_more : (c : Contents) (table : ℕ) (rows : List (List ℕ)) (row : List ℕ) → table < length c.tables → with_row (with_rows c table rows) table row ≡ with_rows c table (rows ++ row ∷ [])
with_rows_more c table rows row low =
    let old = table_at c table in
    let make : List (List ℕ) → TableRows = λ rs. record { width = old.width; rows = rs } in
    ap (λ (t : TableRows). same_but c (set (set c.tables table (make (old.rows ++ rows))) table (with_last t row))) (with_rows_at c table rows low)
    ∙ ap (same_but c) (set_twice c.tables table (make (old.rows ++ rows)) (make ((old.rows ++ rows) ++ row ∷ [])))
    ∙ ap (λ (rs : List (List ℕ)). same_but c (set c.tables table (make rs))) (append_assoc old.rows rows (row ∷ []))

-- rows more, twice
pub with_rows_twice : (c : Contents) (table : ℕ) (xs ys : List (List ℕ)) → table < length c.tables → with_rows (with_rows c table xs) table ys ≡ with_rows c table (xs ++ ys)
with_rows_twice c table xs ys low =
    let old = table_at c table in
    let make : List (List ℕ) → TableRows = λ rs. record { width = old.width; rows = rs } in
    ap (λ (t : TableRows). same_but c (set (set c.tables table (make (old.rows ++ xs))) table (record { width = t.width; rows = t.rows ++ ys }))) (with_rows_at c table xs low)
    ∙ ap (same_but c) (set_twice c.tables table (make (old.rows ++ xs)) (make ((old.rows ++ xs) ++ ys)))
    ∙ ap (λ (rs : List (List ℕ)). same_but c (set c.tables table (make rs))) (append_assoc old.rows xs ys)

-- ---- the rows of a record

pub range_more : {X : Type 0} (f : ℕ → X) (from n : ℕ) → map f (range_with_len from (n + 1)) ≡ map f (range_with_len from n) ++ f (from + n) ∷ []
range_more f from zero = ap (λ (k : ℕ). f k ∷ []) (omega arith)
range_more f from (suc n) =
    ap (λ (k : ℕ). map f (range_with_len from k)) (let e : suc n + 1 ≡ suc (n + 1) = omega arith in e)
    ∙ ap (λ (t : List _). f from ∷ t) (range_more f (from + 1) n)
    ∙ ap (λ (k : ℕ). f from ∷ (map f (range_with_len (from + 1) n) ++ f k ∷ [])) (omega arith)

pub rows_events_few : (x : System) → ExtensionBuses x → (table : ℕ) (rows : List (List ℕ)) → length (flat_map (row_events (sheet_at x table)) rows) ≤ 256 * length rows
rows_events_few x buses table [] = omega arith
rows_events_few x buses table (row ∷ rows) =
    omega (arith, length-append (row_events (sheet_at x table) row) (flat_map (row_events (sheet_at x table)) rows), few_events x buses table row, rows_events_few x buses table rows)

-- the rows of the first places
abbrev pub rows_to : Sheet → StepRecord → ℕ → List (List ℕ)
rows_to sheet done place = map (λ k. sheet.filled done k) (range_with_len 0 place)

pub rows_to_length : (sheet : Sheet) (done : StepRecord) (place : ℕ) → length (rows_to sheet done place) ≡ place
rows_to_length sheet done place = length-map-range_with_len (λ k. sheet.filled done k) 0 place

pub rows_to_more : (sheet : Sheet) (done : StepRecord) (place : ℕ) → rows_to sheet done (place + 1) ≡ rows_to sheet done place ++ sheet.filled done place ∷ []
rows_to_more sheet done place =
    range_more (λ k. sheet.filled done k) 0 place ∙ ap (λ (k : ℕ). rows_to sheet done place ++ sheet.filled done k ∷ []) (omega arith)

-- how many rows a table has then
pub height_then : (c d : Contents) (table : ℕ) (rows : List (List ℕ)) → d ≡ with_rows c table rows → table < length c.tables → length (table_at d table).rows ≡ length (table_at c table).rows + length rows
height_then c d table rows is low =
    ap (λ (k : Contents). length (table_at k table).rows) is ∙ ap (λ (t : TableRows). length t.rows) (with_rows_at c table rows low) ∙ length-append (table_at c table).rows rows

-- a row more is put and said
pub put_more : (c d e : Contents) (table : ℕ) (rows : List (List ℕ)) (row : List ℕ) → table < length c.tables → d ≡ with_rows c table rows → e ≡ with_row d table row → e ≡ with_rows c table (rows ++ row ∷ [])
put_more c d e table rows row low is put = put ∙ ap (λ (k : Contents). with_row k table row) is ∙ with_rows_more c table rows row low

pub said_more : (sheet : Sheet) (rows : List (List ℕ)) (row : List ℕ) → flat_map (row_events sheet) (rows ++ row ∷ []) ≡ flat_map (row_events sheet) rows ++ row_events sheet row
said_more sheet rows row = flat_map-append (row_events sheet) rows (row ∷ []) ∙ ap (λ (t : List Event). flat_map (row_events sheet) rows ++ t) (append-nil (row_events sheet row))

-- ---- the rows of records

pub records_more : (done : List StepRecord) (i : ℕ) (d : StepRecord) (p : Part) → i < length done → d ≡ get_or done i d → filled_rows (take (i + 1) done) p ≡ filled_rows (take i done) p ++ rows_of d p
records_more done i d p low is =
    ap (λ (ds : List StepRecord). filled_rows ds p) (take_more done i d low ∙ ap (λ (x : StepRecord). take i done ++ x ∷ []) (sym is))
    ∙ flat_map-append (λ e. rows_of e p) (take i done) (d ∷ []) ∙ ap (λ (t : List (List ℕ)). filled_rows (take i done) p ++ t) (append-nil (rows_of d p))

few_to : (done : List StepRecord) (p : Part) → PartRows p → (i : ℕ) → length (filled_rows (take i done) p) ≤ 64 * i
few_to [] p rows zero = omega arith
few_to [] p rows (suc i) = omega arith
few_to (d ∷ done) p rows zero = omega arith
few_to (d ∷ done) p rows (suc i) = omega (arith, length-append (rows_of d p) (filled_rows (take i done) p), rows_length d p, rows.few d, few_to done p rows i)

-- the first records fill at most 64 rows each
pub rows_few : (x : System) → ExtensionRows x → (done : List StepRecord) (table i : ℕ) → table < length x.parts → length (filled_rows (take i done) (part_at x table)) ≤ 64 * i
rows_few x rows done table i low = few_to done (part_at x table) (part_has PartRows x.parts table rows.parts low) i

pub said_rows : (sheet : Sheet) (xs ys : List (List ℕ)) → flat_map (row_events sheet) (xs ++ ys) ≡ flat_map (row_events sheet) xs ++ flat_map (row_events sheet) ys
said_rows sheet xs ys = flat_map-append (row_events sheet) xs ys

pub width_then : (c d : Contents) (table : ℕ) (rows : List (List ℕ)) → d ≡ with_rows c table rows → table < length c.tables → (table_at d table).width ≡ (table_at c table).width
width_then c d table rows is low = ap (λ (k : Contents). (table_at k table).width) is ∙ ap (λ (t : TableRows). t.width) (with_rows_at c table rows low)

pub length_then : (c d : Contents) (table : ℕ) (rows : List (List ℕ)) → d ≡ with_rows c table rows → length d.tables ≡ length c.tables
length_then c d table rows is = ap (λ (k : Contents). length k.tables) is ∙ with_rows_length c table rows

pub repeat_more : {X : Type 0} (n : ℕ) (x : X) → replicate (n + 1) x ≡ replicate n x ++ x ∷ []
repeat_more zero x = refl
repeat_more (suc n) x = ap (λ (k : ℕ). replicate k x) (let e : suc n + 1 ≡ suc (n + 1) = omega arith in e) ∙ ap (λ (t : List _). x ∷ t) (repeat_more n x)

pub all_taken : (done : List StepRecord) (i : ℕ) → length done ≤ i → take i done ≡ done
all_taken done i h = take_all i done h

pub all_few : (x : System) → ExtensionRows x → (done : List StepRecord) (table : ℕ) → table < length x.parts → length (filled_rows done (part_at x table)) ≤ 64 * length done
all_few x rows done table low =
    omega (
      arith,
      rows_few x rows done table (length done) low,
      ap (λ (ds : List StepRecord). length (filled_rows ds (part_at x table))) (all_taken done (length done) (omega arith)),
    )

-- a table without rows, then those of the records, and then rows of zero_row
pub table_filled : (x : System) → ExtensionBuses x → ExtensionRows x → (done : List StepRecord) (table : ℕ) (old mid new : Contents) (before after : LookupCounts) (row : List ℕ) → table < length x.parts
    → table < length old.tables → length done ≤ 65536 → (table_at old table).rows ≡ [] → mid ≡ with_rows old table (filled_rows done (part_at x table))
    → Handed CountLookups events_left before after (flat_map (row_events (sheet_at x table)) (filled_rows done (part_at x table))) → row ≡ zero_row (sheet_at x table)
    → (more : ℕ) × IsHeight (length (table_at mid table).rows) (length (table_at mid table).rows + more) × (new ≡ with_rows mid table (replicate more row))
    → TableFilled x done table old new before after
table_filled x buses rows done table old mid new before after row low in_tables few none is handed same padding =
    let mine = filled_rows done (part_at x table) in
    let made = padding.0 in
    let high : length (table_at mid table).rows ≡ length mine = omega (arith, height_then old mid table mine is in_tables, ap (λ (r : List (List ℕ)). length r) none) in
    record {
      rows = mine ++ replicate made (zero_row (sheet_at x table));
      filled = record { more = made; are = refl; height = subst (λ (n : ℕ). IsHeight n (n + made)) high padding.1 };
      are =
          padding.2 ∙ ap (λ (c : Contents). with_rows c table (replicate made row)) is ∙ with_rows_twice old table mine (replicate made row) in_tables
          ∙ ap (λ (r : List ℕ). with_rows old table (mine ++ replicate made r)) same;
      handed = handed;
      few = omega (arith, rows_events_few x buses table mine, all_few x rows done table low, few);
    }
