-- Rows and tables that were read and not kept.
use Rattle.std.proofs.Common.{◌≡◌, ℕ, ◌+◌, ◌*◌, ◌^◌, ◌<◌, ◌≤◌, true, List, [], ◌∷◌, ◌++◌, length, map, refl, sym, ap, subst, ◌∙◌, arith, length-append, append_assoc, append-nil, slice_index}
use Rattle.std.specs.List.{AllByRecursion, slice_index_or}
use Rattle.std.proofs.lemmas.List.{map-append}
use Rattle.std.proofs.lemmas.List.Sums.{count_by-le-length}
use Rattle.readings.specs.Readings.{Reading, chain}
use Rattle.readings.specs.declared.Stop.{Stop}
use Rattle.vm_host.specs.declared.Slot.TheVariants.{Second}
use Rattle.vm_host.specs.State.{HostState}
use Rattle.vm_trace.specs.Canonical.{height_of}
use Rattle.air_core.specs.declared.event.Event.{Event}
use Rattle.air_core.specs.Sheet.{Sheet, IsRow, row_events}
use Rattle.air_core.specs.System.{System, Part, EachRow, no_part, sheet_at}
use Rattle.acceptance.specs.Events.{is_valid, said_by_rows}
use Rattle.table_format.specs.declared.reason.Reason.{Reason}
use Rattle.table_format.specs.Order.{next_place}
use Rattle.table_format.specs.Stream.{Held}
use Rattle.table_format.proofs.Drawn.{Drew, Halts, drew_none, drew_more, halts_chained}
use Rattle.vm_checker.specs.declared.tally.Tally.{Tally}
use Rattle.vm_checker.specs.Heard.{room_left}
use Rattle.vm_checker.specs.Items.{row_of, rows_of}
use Rattle.vm_checker.specs.Kept.{Tallied}
use Rattle.vm_checker.proofs.Places.{drew_here, halts_here}
use Rattle.vm_checker.proofs.Tallying.{tallied_none, tallied_both}

module _ {X : Type 0} (P : X → Type 0) where
  all_front : (xs : List X) (x : X) → AllByRecursion P (xs ++ x ∷ []) → AllByRecursion P xs
  all_front [] x h = tt
  all_front (y ∷ ys) x h = (h.0, all_front ys x h.1)

  all_last : (xs : List X) (x : X) → AllByRecursion P (xs ++ x ∷ []) → P x
  all_last [] x h = h.0
  all_last (y ∷ ys) x h = all_last ys x h.1

-- ---- the rows of a table

-- so many rows of a table were read, and what they say was kept
pub record RowsSo (x : System) (segment table count : ℕ) (a b : Held) (s t : HostState) (old new : Tally) : Type 0 where
  pub given : List (List ℕ)
  pub number : length given ≡ count
  pub drew : Drew (rows_of x segment table count) a b s t given
  pub tallied : Tallied (AllByRecursion (IsRow (sheet_at x table)) given) (map (row_events (sheet_at x table)) given) old new
  pub left : room_left old.said ≤ room_left new.said + 256 * count
  pub valid : new.valid ≤ old.valid + count

module _ (x : System) (segment table : ℕ) where
  pub no_rows : (a : Held) (s : HostState) (tally : Tally) → (s.input Second).is_open ≡ true → RowsSo x segment table 0 a a s s tally tally
  no_rows a s tally is_open = record {
    given = [];
    number = refl;
    drew = drew_none (row_of x segment table) next_place 0 a s is_open;
    tallied = tallied_none (AllByRecursion (IsRow (sheet_at x table)) []) tally;
    left = omega arith;
    valid = omega arith;
  }

  pub one_row : {count : ℕ} {a b c : Held} {s t u : HostState} {old mid new : Tally} (row : List ℕ) → RowsSo x segment table count a b s t old mid → Drew (row_of x segment table count) b c t u row
      → Tallied (IsRow (sheet_at x table) row) (row_events (sheet_at x table) row ∷ []) mid new → length (row_events (sheet_at x table) row) ≤ 256 → RowsSo x segment table (count + 1) a c s u old new
  one_row {count} {a} {b} {c} {s} {t} {u} {old} {mid} {new} row h drew said few =
      let sheet = sheet_at x table in
      record {
        given = h.given ++ row ∷ [];
        number = omega (arith, length-append h.given (row ∷ []), h.number);
        drew = drew_more (row_of x segment table) next_place 0 count h.drew (drew_here (row_of x segment table) h.given h.number drew);
        tallied = subst (λ (said : List (List Event)). Tallied (AllByRecursion (IsRow sheet) (h.given ++ row ∷ [])) said old new) (sym (map-append (row_events sheet) h.given (row ∷ [])))
            (tallied_both (all_front (IsRow sheet) h.given row) (all_last (IsRow sheet) h.given row) h.tallied said);
        left = omega (arith, h.left, said.heard.used, few, length-append (row_events sheet row) []);
        valid = omega (arith, h.valid, said.valid, count_by-le-length is_valid (row_events sheet row ∷ []));
      }

  pub row_halts : {count n : ℕ} {a b c : Held} {s t u : HostState} {old new : Tally} {e : Stop Reason} → count < n → RowsSo x segment table count a b s t old new → Halts (row_of x segment table count) b c t u e
      → Halts (rows_of x segment table n) a c s u e
  row_halts {count} {n} lt h k = halts_chained (row_of x segment table) next_place 0 count n lt h.drew (halts_here (row_of x segment table) h.given h.number k)

-- ---- tables

abbrev table_at : List Part → ℕ → Sheet
table_at ps i = (slice_index_or ps i no_part).sheet

none_said : (ps : List Part) → said_by_rows ps [] ≡ []
none_said [] = refl
none_said (p ∷ ps) = refl

said_more : (ps : List Part) (ts : List (List (List ℕ))) (rows : List (List ℕ)) → length ts < length ps → said_by_rows ps (ts ++ rows ∷ []) ≡ said_by_rows ps ts ++ map (row_events (table_at ps (length ts))) rows
said_more [] ts rows low = absurd (omega (arith, low))
said_more (p ∷ ps) [] rows low = ap (λ (said : List (List Event)). map (row_events p.sheet) rows ++ said) (none_said ps) ∙ append-nil (map (row_events p.sheet) rows)
said_more (p ∷ ps) (r ∷ ts) rows low =
    ap (λ (said : List (List Event)). map (row_events p.sheet) r ++ said) (said_more ps ts rows (omega (arith, low))) ∙ sym (append_assoc (map (row_events p.sheet) r) (said_by_rows ps ts) (map (row_events (table_at ps (length ts))) rows))

each_front : (P : Sheet → List ℕ → Type 0) (ps : List Part) (ts : List (List (List ℕ))) (rows : List (List ℕ)) → EachRow P ps (ts ++ rows ∷ []) → EachRow P ps ts
each_front P [] ts rows h = tt
each_front P (p ∷ ps) [] rows h = tt
each_front P (p ∷ ps) (r ∷ ts) rows h = (h.0, each_front P ps ts rows h.1)

each_last : (P : Sheet → List ℕ → Type 0) (ps : List Part) (ts : List (List (List ℕ))) (rows : List (List ℕ)) → length ts < length ps → EachRow P ps (ts ++ rows ∷ []) → AllByRecursion (P (table_at ps (length ts))) rows
each_last P [] ts rows low h = absurd (omega (arith, low))
each_last P (p ∷ ps) [] rows low h = h.0
each_last P (p ∷ ps) (r ∷ ts) rows low h = each_last P ps ts rows (omega (arith, low)) h.1

abbrev table_of : System → ℕ → List ℕ → ℕ → Reading Reason (List (List ℕ))
table_of x segment codes table = rows_of x segment table (height_of (slice_index codes table))

-- so many tables were read, and what their rows say was kept
pub record TablesSo (x : System) (segment : ℕ) (codes : List ℕ) (count : ℕ) (a b : Held) (s t : HostState) (old new : Tally) : Type 0 where
  pub given : List (List (List ℕ))
  pub number : length given ≡ count
  pub drew : Drew (chain (λ table. rows_of x segment table (height_of (slice_index codes table))) next_place count 0) a b s t given
  pub tallied : Tallied (EachRow IsRow x.parts given) (said_by_rows x.parts given) old new
  pub left : room_left old.said ≤ room_left new.said + 2 ^ 32 * count
  pub valid : new.valid ≤ old.valid + 2 ^ 24 * count

module _ (x : System) (segment : ℕ) (codes : List ℕ) where
  pub no_tables : (a : Held) (s : HostState) (tally : Tally) → (s.input Second).is_open ≡ true → TablesSo x segment codes 0 a a s s tally tally
  no_tables a s tally is_open = record {
    given = [];
    number = refl;
    drew = drew_none (table_of x segment codes) next_place 0 a s is_open;
    tallied = subst (λ (said : List (List Event)). Tallied (EachRow IsRow x.parts []) said tally tally) (sym (none_said x.parts)) (tallied_none (EachRow IsRow x.parts []) tally);
    left = omega arith;
    valid = omega arith;
  }

  pub one_table : {count : ℕ} {a b c : Held} {s t u : HostState} {old mid new : Tally} (rows : List (List ℕ)) → count < length x.parts → height_of (slice_index codes count) ≤ 2 ^ 24 → TablesSo x segment codes count a b s t old mid
      → Drew (rows_of x segment count (height_of (slice_index codes count))) b c t u rows → Tallied (AllByRecursion (IsRow (sheet_at x count)) rows) (map (row_events (sheet_at x count)) rows) mid new
      → room_left mid.said ≤ room_left new.said + 256 * height_of (slice_index codes count) → new.valid ≤ mid.valid + height_of (slice_index codes count)
      → TablesSo x segment codes (count + 1) a c s u old new
  one_table {count} {a} {b} {c} {s} {t} {u} {old} {mid} {new} rows low small h drew said left valid =
      let below : length h.given < length x.parts = omega (arith, low, h.number) in
      let here : Tallied (AllByRecursion (IsRow (table_at x.parts (length h.given))) rows) (map (row_events (table_at x.parts (length h.given))) rows) mid new =
      subst (λ (n : ℕ). Tallied (AllByRecursion (IsRow (table_at x.parts n)) rows) (map (row_events (table_at x.parts n)) rows) mid new) (sym h.number) said in
      record {
        given = h.given ++ rows ∷ [];
        number = omega (arith, length-append h.given (rows ∷ []), h.number);
        drew = drew_more (table_of x segment codes) next_place 0 count h.drew (drew_here (table_of x segment codes) h.given h.number drew);
        tallied = subst (λ (all : List (List Event)). Tallied (EachRow IsRow x.parts (h.given ++ rows ∷ [])) all old new) (sym (said_more x.parts h.given rows below))
            (tallied_both (each_front IsRow x.parts h.given rows) (each_last IsRow x.parts h.given rows below) h.tallied here);
        left = omega (arith, h.left, left, small);
        valid = omega (arith, h.valid, valid, small);
      }

  pub table_halts : {count n : ℕ} {a b c : Held} {s t u : HostState} {old new : Tally} {e : Stop Reason} → count < n → TablesSo x segment codes count a b s t old new
      → Halts (rows_of x segment count (height_of (slice_index codes count))) b c t u e → Halts (chain (λ table. rows_of x segment table (height_of (slice_index codes table))) next_place n 0) a c s u e
  table_halts {count} {n} lt h k = halts_chained (table_of x segment codes) next_place 0 count n lt h.drew (halts_here (table_of x segment codes) h.given h.number k)
