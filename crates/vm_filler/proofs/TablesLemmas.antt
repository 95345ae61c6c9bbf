-- Tables that are filled one after the other.
use Rattle.std.proofs.Common.{◌≡◌, ℕ, zero, suc, ◌+◌, ◌<◌, ◌≤◌, List, [], ◌∷◌, ◌++◌, map, set, get_or, take, drop, length, length-append, append-nil, append_assoc, drop_of_length-le, refl, sym, ap, ◌∙◌, subst, arith}
use Rattle.std.specs.Prelude.{flat_map, replicate}
use Rattle.std.proofs.Math.Seq.{set-append_seam}
use Rattle.std.proofs.lemmas.List.{take_more, take_all}
use Rattle.std.proofs.lemmas.Grind.{flat_map-append}
use Rattle.vm_isa.specs.declared.record.StepRecord.{StepRecord}
use Rattle.air_core.specs.declared.event.Event.{Event}
use Rattle.vm_trace.specs.Contents.{Contents, TableRows, table_at, empty}
use Rattle.air_core.specs.ExtensionLaws.{ExtensionQuiet, QuietZeros}
use Rattle.air_core.specs.PartLemmas.{events_both}
use Rattle.air_core.specs.Sheet.{Sheet, row_events}
use Rattle.air_core.specs.Sink.{Handed, handed_both, handed_none}
use Rattle.air_core.specs.System.{System, Part, no_part, part_at, sheet_at, all_events}
use Rattle.air_core.proofs.ExtensionLemmas.{part_has}
use Rattle.vm_filler.specs.Tables.{filled_rows, zero_row, IsFilledTable, AreFilledTables}
use Rattle.vm_filler.specs.Filling.{with_rows, TableFilled, FilledTables, without_rows, rows_in, FilledTo, AllFilled}
use Rattle.vm_filler.specs.Lookups.{LookupCounts, CountLookups, events_left}

-- behind the last table
abbrev pub no_table : TableRows
no_table = record { width = 0; rows = [] }

-- rows of zero_row say nothing
silent_zeros : (sheet : Sheet) → row_events sheet (zero_row sheet) ≡ [] → (n : ℕ) → flat_map (row_events sheet) (replicate n (zero_row sheet)) ≡ []
silent_zeros sheet silent zero = refl
silent_zeros sheet silent (suc n) = ap (λ (t : List Event). t ++ flat_map (row_events sheet) (replicate n (zero_row sheet))) silent ∙ silent_zeros sheet silent n

said_padded : (sheet : Sheet) (rows : List (List ℕ)) (n : ℕ) → row_events sheet (zero_row sheet) ≡ [] → flat_map (row_events sheet) (rows ++ replicate n (zero_row sheet)) ≡ flat_map (row_events sheet) rows
said_padded sheet rows n silent =
    flat_map-append (row_events sheet) rows (replicate n (zero_row sheet))
    ∙ ap (λ (t : List Event). flat_map (row_events sheet) rows ++ t) (silent_zeros sheet silent n) ∙ append-nil (flat_map (row_events sheet) rows)

said_filled : (done : List StepRecord) (p : Part) (rows : List (List ℕ)) → row_events p.sheet (zero_row p.sheet) ≡ [] → IsFilledTable done p rows
    → flat_map (row_events p.sheet) rows ≡ flat_map (row_events p.sheet) (filled_rows done p)
said_filled done p rows silent filled = ap (λ (r : List (List ℕ)). flat_map (row_events p.sheet) r) filled.are ∙ said_padded p.sheet (filled_rows done p) filled.more silent

at_seam : {X : Type 0} (xs : List X) (y : X) (ys : List X) (d : X) → get_or (xs ++ y ∷ ys) (length xs) d ≡ y
at_seam [] y ys d = refl
at_seam (x ∷ xs) y ys d = at_seam xs y ys d

drop_one : {X : Type 0} (xs : List X) (k : ℕ) (d : X) → k < length xs → drop k xs ≡ get_or xs k d ∷ drop (k + 1) xs
drop_one [] k d low = absurd (omega (arith, low))
drop_one (x ∷ xs) zero d low = refl
drop_one (x ∷ xs) (suc k) d low = drop_one xs k d (omega (arith, low)) ∙ ap (λ (n : ℕ). get_or xs k d ∷ drop n (x ∷ xs)) (let e : suc (k + 1) ≡ suc k + 1 = omega arith in e)

tables_more : (done : List StepRecord) (ps : List Part) (ts : List TableRows) (p : Part) (t : TableRows) → FilledTables done ps ts → t.width ≡ p.sheet.width → IsFilledTable done p t.rows → FilledTables done (ps ++ p ∷ []) (ts ++ t ∷ [])
tables_more done [] [] p t filled wide is = (wide, is, tt)
tables_more done [] (u ∷ ts) p t filled wide is = elim filled [ ]
tables_more done (q ∷ ps) [] p t filled wide is = elim filled [ ]
tables_more done (q ∷ ps) (u ∷ ts) p t filled wide is = (filled.0, filled.1, tables_more done ps ts p t filled.2 wide is)

filled_count : (done : List StepRecord) (ps : List Part) (ts : List TableRows) → FilledTables done ps ts → length ts ≡ length ps
filled_count done [] [] filled = refl
filled_count done [] (t ∷ ts) filled = elim filled [ ]
filled_count done (p ∷ ps) [] filled = elim filled [ ]
filled_count done (p ∷ ps) (t ∷ ts) filled = omega (arith, filled_count done ps ts filled.2)

rows_in_length : (ts : List TableRows) → length (rows_in ts) ≡ length ts
rows_in_length [] = refl
rows_in_length (t ∷ ts) = omega (arith, rows_in_length ts)

rows_in_append : (ts us : List TableRows) → rows_in (ts ++ us) ≡ rows_in ts ++ rows_in us
rows_in_append [] us = refl
rows_in_append (t ∷ ts) us = ap (λ (r : List (List (List ℕ))). t.rows ∷ r) (rows_in_append ts us)

taken_length : {X : Type 0} (xs : List X) (k : ℕ) → k ≤ length xs → length (take k xs) ≡ k
taken_length [] zero low = refl
taken_length [] (suc k) low = absurd (omega (arith, low))
taken_length (x ∷ xs) zero low = refl
taken_length (x ∷ xs) (suc k) low = omega (arith, taken_length xs k (omega (arith, low)))

-- a table with its rows, in the place of one without
set_there : (c : Contents) (k : ℕ) (first rest : List TableRows) (p : Part) (rows : List (List ℕ)) → c.tables ≡ first ++ without_rows p ∷ rest → length first ≡ k
    → (with_rows c k rows).tables ≡ first ++ record { width = p.sheet.width; rows = rows } ∷ rest
set_there c k first rest p rows are count =
    let old : table_at c k ≡ without_rows p = ap (λ (t : List TableRows). get_or t k no_table) are ∙ ap (λ (n : ℕ). get_or (first ++ without_rows p ∷ rest) n no_table) (sym count) ∙ at_seam first (without_rows p) rest no_table in
    let made : TableRows → TableRows = λ t. record { width = t.width; rows = t.rows ++ rows } in
    ap (λ (t : TableRows). set c.tables k (made t)) old ∙ ap (λ (t : List TableRows). set t k (made (without_rows p))) are
    ∙ ap (λ (n : ℕ). set (first ++ without_rows p ∷ rest) n (made (without_rows p))) (sym count) ∙ set-append_seam first (without_rows p) rest (made (without_rows p))

-- no table is filled
pub filled_none : (x : System) (done : List StepRecord) (widths : List ℕ) (counts : LookupCounts) → widths ≡ map (λ (p : Part). p.sheet.width) x.parts → FilledTo x done 0 (empty widths) counts counts
filled_none x done widths counts are = record {
  first = [];
  are = ap (λ (ws : List ℕ). map (λ w. record { width = w; rows = [] }) ws) are ∙ twice x.parts;
  filled = tt;
  handed = handed_none counts;
  few = omega arith;
  entries = refl;
}
  where
    twice : (ps : List Part) → map (λ w. record { width = w; rows = [] }) (map (λ (p : Part). p.sheet.width) ps) ≡ map without_rows ps
    twice [] = refl
    twice (p ∷ ps) = ap (λ (t : List TableRows). without_rows p ∷ t) (twice ps)

-- a table more is filled
pub filled_more : (x : System) → ExtensionQuiet x → (done : List StepRecord) (k : ℕ) (old new : Contents) (first_counts before after : LookupCounts) → k < length x.parts
    → FilledTo x done k old first_counts before → TableFilled x done k old new before after → FilledTo x done (k + 1) new first_counts after
filled_more x quiet done k old new first_counts before after low to more =
    let p = part_at x k in
    let t : TableRows = record { width = p.sheet.width; rows = more.rows } in
    let silent = (part_has (λ q. QuietZeros q.sheet) x.parts k quiet low).silent in
    let rest = map without_rows (drop (k + 1) x.parts) in
    let count : length to.first ≡ k = filled_count done (take k x.parts) to.first to.filled ∙ taken_length x.parts k (omega (arith, low)) in
    let there : old.tables ≡ to.first ++ without_rows p ∷ rest = to.are ∙ ap (λ (ps : List Part). to.first ++ map without_rows ps) (drop_one x.parts k no_part low) in
    let taken : take (k + 1) x.parts ≡ take k x.parts ++ p ∷ [] = take_more x.parts k no_part low in
    let said = said_filled done p more.rows silent more.filled in
    let all : all_events (take (k + 1) x.parts) (rows_in (to.first ++ t ∷ [])) ≡ all_events (take k x.parts) (rows_in to.first) ++ flat_map (row_events p.sheet) (filled_rows done p) =
    ap (λ (ps : List Part). all_events ps (rows_in (to.first ++ t ∷ []))) taken
    ∙ ap (λ (rs : List (List (List ℕ))). all_events (take k x.parts ++ p ∷ []) rs) (rows_in_append to.first (t ∷ []))
    ∙ events_both (take k x.parts) (p ∷ []) (rows_in to.first) (more.rows ∷ []) (rows_in_length to.first ∙ filled_count done (take k x.parts) to.first to.filled)
    ∙ ap (λ (es : List Event). all_events (take k x.parts) (rows_in to.first) ++ es) (append-nil (flat_map (row_events p.sheet) more.rows) ∙ said) in
    record {
      first = to.first ++ t ∷ [];
      are = ap (λ (c : Contents). c.tables) more.are ∙ set_there old k to.first rest p more.rows there count ∙ sym (append_assoc to.first (t ∷ []) rest);
      filled = subst (λ (ps : List Part). FilledTables done ps (to.first ++ t ∷ [])) (sym taken) (tables_more done (take k x.parts) to.first p t to.filled refl more.filled);
      handed = subst (λ (es : List Event). Handed CountLookups events_left first_counts after es) (sym all) (handed_both to.handed more.handed);
      few = omega (arith, ap (λ (es : List Event). length es) all, length-append (all_events (take k x.parts) (rows_in to.first)) (flat_map (row_events p.sheet) (filled_rows done p)), to.few, more.few);
      entries = more.are ∙ ap (λ (c : Contents). with_rows c k more.rows) to.entries ∙ ap (λ (ts : List TableRows). record { tables = ts; program = []; xor = []; range = []; constants = [] }) (sym (ap (λ (c : Contents). c.tables) more.are));
    }

-- the table that comes next is there, of its width and without rows
pub record Next (x : System) (k : ℕ) (c : Contents) : Type 0 where
  pub below : k < length c.tables
  pub wide : (table_at c k).width ≡ (sheet_at x k).width
  pub none : (table_at c k).rows ≡ []

pub next_table : (x : System) (done : List StepRecord) (k : ℕ) (c : Contents) (before after : LookupCounts) → k < length x.parts → FilledTo x done k c before after → Next x k c
next_table x done k c before after low to =
    let p = part_at x k in
    let rest = map without_rows (drop (k + 1) x.parts) in
    let count : length to.first ≡ k = filled_count done (take k x.parts) to.first to.filled ∙ taken_length x.parts k (omega (arith, low)) in
    let there : c.tables ≡ to.first ++ without_rows p ∷ rest = to.are ∙ ap (λ (ps : List Part). to.first ++ map without_rows ps) (drop_one x.parts k no_part low) in
    let at : table_at c k ≡ without_rows p = ap (λ (t : List TableRows). get_or t k no_table) there ∙ ap (λ (n : ℕ). get_or (to.first ++ without_rows p ∷ rest) n no_table) (sym count) ∙ at_seam to.first (without_rows p) rest no_table in
    record {
      below = omega (arith, ap (λ (t : List TableRows). length t) there, length-append to.first (without_rows p ∷ rest), count);
      wide = ap (λ (t : TableRows). t.width) at;
      none = ap (λ (t : TableRows). t.rows) at;
    }

all_filled_by : (done : List StepRecord) (ps : List Part) (ts : List TableRows) → FilledTables done ps ts → (map (λ (t : TableRows). t.width) ts ≡ map (λ (p : Part). p.sheet.width) ps) × AreFilledTables done ps (rows_in ts)
all_filled_by done [] [] filled = (refl, tt)
all_filled_by done [] (t ∷ ts) filled = elim filled [ ]
all_filled_by done (p ∷ ps) [] filled = elim filled [ ]
all_filled_by done (p ∷ ps) (t ∷ ts) filled =
    let rest = all_filled_by done ps ts filled.2 in
    (ap (λ (w : ℕ). w ∷ map (λ (u : TableRows). u.width) ts) filled.0 ∙ ap (λ (ws : List ℕ). p.sheet.width ∷ ws) rest.0, (filled.1, rest.1))

-- the last table was filled
pub filled_all : (x : System) (done : List StepRecord) (k : ℕ) (c : Contents) (before after : LookupCounts) → k ≡ length x.parts → FilledTo x done k c before after → AllFilled x done c before after
filled_all x done k c before after last to =
    let all : take k x.parts ≡ x.parts = take_all k x.parts (omega (arith, last)) in
    let are : c.tables ≡ to.first = to.are ∙ ap (λ (ps : List Part). to.first ++ map without_rows ps) (drop_of_length-le x.parts (omega (arith, last))) ∙ append-nil to.first in
    let filled = all_filled_by done x.parts to.first (subst (λ (ps : List Part). FilledTables done ps to.first) all to.filled) in
    record {
      widths = ap (λ (ts : List TableRows). map (λ (t : TableRows). t.width) ts) are ∙ filled.0;
      filled = subst (λ (ts : List TableRows). AreFilledTables done x.parts (rows_in ts)) (sym are) filled.1;
      handed =
          subst (λ (es : List Event). Handed CountLookups events_left before after es)
          (ap (λ (ps : List Part). all_events ps (rows_in to.first)) all ∙ ap (λ (ts : List TableRows). all_events x.parts (rows_in ts)) (sym are)) to.handed;
      entries = to.entries;
    }
