-- No test of a segment fails exactly where it holds.
use Rattle.std.proofs.Common.{◌≡◌, ℕ, zero, suc, ◌+◌, ◌*◌, ◌^◌, ◌<◌, ◌≤◌, Bool, true, false, cond, ◌&&◌, ◌==◌, nat_eq, nat_lt, nat_le, List, [], ◌∷◌, length, map, Option, Some, None, refl, sym, ap, subst, ◌∙◌, arith, inl, inr, slice_index}
use Rattle.std.specs.Prelude.{◌||◌, not, IsNone, find, is_some, ◌⊎◌}
use Rattle.std.specs.List.{AllByRecursion, slice_index_or}
use Rattle.std.specs.List.Sorted.{IsStrictlyIncreasing}
use Rattle.std.specs.Option.{option_map, option_or, option_and_then}
use Rattle.std.specs.Cmp.Lexicographic.{same_text}
use Rattle.std.proofs.lemmas.Bool.{ltb-true, lt-ltb, leb-true, le-leb, eqb-true, eq-eqb, and_parts, and_from}
use Rattle.std.proofs.lemmas.List.Elements.{All-from_recursion, recursion_from_All}
use Rattle.readings.specs.Exact.{Each}
use Rattle.vm_isa.specs.declared.instr.VmInstr.{VmInstr}
use Rattle.vm_isa.specs.declared.opcode.TheConstants.{TERMINATE}
use Rattle.vm_isa.specs.Blocks.{Terminates}
use Rattle.vm_trace.specs.declared.page.TheConstants.{REGISTER_LABEL, MEMORY_LABEL, PUBLIC_LABEL}
use Rattle.vm_trace.specs.declared.page.Touched.{Touched}
use Rattle.vm_trace.specs.Canonical.{HasWidth, AreTables, IsDigest, IsCanonicalPage, IsCanonicalSegment}
use Rattle.vm_trace.specs.File.{Segment}
use Rattle.vm_trace.specs.Limits.{Limits}
use Rattle.vm_trace.specs.Pages.{IsMachineLabel}
use Rattle.vm_transpile.specs.Order.{RisesFrom}
use Rattle.vm_transpile.proofs.Lookups.{found, finds}
use Rattle.air_core.specs.declared.event.Event.{Event}
use Rattle.air_core.specs.Balance.{Balanced}
use Rattle.air_core.specs.First.{first_from}
use Rattle.air_core.specs.lemmas.OneHot.{or_true}
use Rattle.air_core.specs.ListLemmas.{all_weaker}
use Rattle.air_core.specs.Sheet.{Sheet, IsRow, RowHolds}
use Rattle.air_core.specs.System.{System, Part, EachRow, no_part, sheet_at}
use Rattle.air_core.proofs.FirstLemmas.{first_from-none, first_from-all}
use Rattle.bus_core.specs.Least.{least_uneven}
use Rattle.bus_core.proofs.LeastOf.{least_uneven_is}
use Rattle.page_tree.specs.Opening.{AreDigests, opening_root, siblings_needed}
use Rattle.page_tree.specs.Parts.{labels_of, label_of, old_bytes_at}
use Rattle.acceptance.specs.Events.{segment_events}
use Rattle.acceptance.specs.Holds.{IsMachinePage, most_slots}
use Rattle.table_format.specs.declared.reason.Reason.{Reason}
use Rattle.table_format.specs.declared.reason.Reason.TheVariants as reason
use Rattle.table_format.specs.Exactly.{RowsPass}
use Rattle.table_format.specs.Order.{want, same_bytes, PageAt, next_page, first_page, next_place, Stand, Tests}
use Rattle.table_format.proofs.ExactItems.{want_so, so_want, are_same}
use Rattle.vm_checker.specs.declared.Before.{Before}
use Rattle.vm_checker.specs.FirstReason.{slots_of, slots_test, row_test, is_machine_label, page_test, uneven_reason, balance_test, number_test, siblings_test, code_of, exit_code, has_root, has_pc, start_root_test, end_root_test, start_pc_test, end_test, whole_test}
use Rattle.vm_checker.specs.Exactly.{BeginsAt, SegmentStands}

-- ---- tests one after the other

pub neither : (a b : Option Reason) → option_or a b ≡ None → (a ≡ None) × (b ≡ None)
neither None b h = (refl, h)
neither (Some e) b h = absurd cc

pub both_none : (a b : Option Reason) → a ≡ None → b ≡ None → option_or a b ≡ None
both_none None b h k = k
both_none (Some e) b h k = absurd cc

no_reason : {A : Type 0} (f : A → Reason) (o : Option A) → option_map f o ≡ None → o ≡ None
no_reason f None h = refl
no_reason f (Some a) h = absurd cc

-- ---- rows

pub row_holds : (xs : List ℕ) → first_from 0 xs ≡ None → AllByRecursion (λ (v : ℕ). v ≡ 0) xs
row_holds xs h = recursion_from_All (λ (v : ℕ). v ≡ 0) xs (first_from-none 0 xs h)

none_broken : (xs : List ℕ) → AllByRecursion (λ (v : ℕ). v ≡ 0) xs → first_from 0 xs ≡ None
none_broken xs h = first_from-all 0 xs (All-from_recursion (λ (v : ℕ). v ≡ 0) xs h)

module _ (x : System) (t : Tests) (at : Stand) (is : (table place : ℕ) (row : List ℕ) → t.row at table place row ≡ row_test x at.number table place row) where
  rows_hold : (table place : ℕ) (sheet : Sheet) (rows : List (List ℕ)) → sheet_at x table ≡ sheet → Each (λ i row. t.row at table i row ≡ None) next_place place rows → AllByRecursion (RowHolds sheet) rows
  rows_hold table place sheet [] same h = tt
  rows_hold table place sheet (row ∷ rows) same h = (
    subst (λ (y : Sheet). RowHolds y row) same (row_holds ((sheet_at x table).constraints row) (no_reason (reason.Row at.number table place) (first_from 0 ((sheet_at x table).constraints row)) (sym (is table place row) ∙ h.0))),
    rows_hold table (place + 1) sheet rows same h.1,
  )

  rows_pass : (table place : ℕ) (sheet : Sheet) (rows : List (List ℕ)) → sheet_at x table ≡ sheet → AllByRecursion (RowHolds sheet) rows → Each (λ i row. t.row at table i row ≡ None) next_place place rows
  rows_pass table place sheet [] same h = tt
  rows_pass table place sheet (row ∷ rows) same h = (
    is table place row ∙ ap (option_map (reason.Row at.number table place)) (none_broken ((sheet_at x table).constraints row) (subst (λ (y : Sheet). RowHolds y row) (sym same) h.0)),
    rows_pass table (place + 1) sheet rows same h.1,
  )

  -- these are the parts from a table on
  abbrev AreFrom : ℕ → List Part → Type 0
  AreFrom table parts = (i : ℕ) → sheet_at x (i + table) ≡ (slice_index_or parts i no_part).sheet

  from_here : (table : ℕ) (p : Part) (ps : List Part) → AreFrom table (p ∷ ps) → sheet_at x table ≡ p.sheet
  from_here table p ps h = let place : table ≡ 0 + table = omega arith in ap (sheet_at x) place ∙ h 0

  from_next : (table : ℕ) (p : Part) (ps : List Part) → AreFrom table (p ∷ ps) → AreFrom (table + 1) ps
  from_next table p ps h i = let place : i + (table + 1) ≡ suc i + table = omega arith in ap (sheet_at x) place ∙ h (suc i)

  tables_hold : (table : ℕ) (ps : List Part) (ts : List (List (List ℕ))) → AreFrom table ps → RowsPass t at table ts → EachRow RowHolds ps ts
  tables_hold table [] ts from h = tt
  tables_hold table (p ∷ ps) [] from h = tt
  tables_hold table (p ∷ ps) (rows ∷ ts) from h = (rows_hold table 0 p.sheet rows (from_here table p ps from) h.0, tables_hold (table + 1) ps ts (from_next table p ps from) h.1)

  tables_pass : (table : ℕ) (ps : List Part) (ts : List (List (List ℕ))) → AreFrom table ps → length ts ≡ length ps → EachRow RowHolds ps ts → RowsPass t at table ts
  tables_pass table ps [] from n h = tt
  tables_pass table [] (rows ∷ ts) from n h = absurd (omega (arith, n))
  tables_pass table (p ∷ ps) (rows ∷ ts) from n h = (rows_pass table 0 p.sheet rows (from_here table p ps from) h.0, tables_pass (table + 1) ps ts (from_next table p ps from) (omega (arith, n)) h.1)

  all_from : AreFrom 0 x.parts
  all_from i = let place : i + 0 ≡ i = omega arith in ap (sheet_at x) place

  pub all_rows_hold : (ts : List (List (List ℕ))) → RowsPass t at 0 ts → EachRow RowHolds x.parts ts
  all_rows_hold ts h = tables_hold 0 x.parts ts all_from h

  pub all_rows_pass : (ts : List (List (List ℕ))) → length ts ≡ length x.parts → EachRow RowHolds x.parts ts → RowsPass t at 0 ts
  all_rows_pass ts n h = tables_pass 0 x.parts ts all_from n h

-- ---- tables of the form

abbrev width_of : Part → ℕ
width_of p = p.sheet.width

record TablesSo (ps : List Part) (cs : List ℕ) (ts : List (List (List ℕ))) : Type 0 where
  number : length ts ≡ length ps
  rows : EachRow IsRow ps ts
  slots : slots_of ps cs ≡ most_slots ps ts

are_rows : (sheet : Sheet) (rows : List (List ℕ)) → AllByRecursion (HasWidth sheet.width) rows → AllByRecursion (IsRow sheet) rows
are_rows sheet rows h = all_weaker (HasWidth sheet.width) (IsRow sheet) (λ row r. record { wide = r.wide; below = r.elements }) rows h

tables_so : (greatest : ℕ) (ps : List Part) (cs : List ℕ) (ts : List (List (List ℕ))) → AreTables greatest (map width_of ps) cs ts → TablesSo ps cs ts
tables_so greatest [] [] [] h = record { number = refl; rows = tt; slots = refl }
tables_so greatest [] [] (rows ∷ ts) h = elim h [ ]
tables_so greatest [] (c ∷ cs) [] h = elim h [ ]
tables_so greatest [] (c ∷ cs) (rows ∷ ts) h = elim h [ ]
tables_so greatest (p ∷ ps) [] [] h = elim h [ ]
tables_so greatest (p ∷ ps) [] (rows ∷ ts) h = elim h [ ]
tables_so greatest (p ∷ ps) (c ∷ cs) [] h = elim h [ ]
tables_so greatest (p ∷ ps) (c ∷ cs) (rows ∷ ts) h =
    let more = tables_so greatest ps cs ts h.1 in
    record {
      number = omega (arith, more.number);
      rows = (are_rows p.sheet rows h.0.each, more.rows);
      slots = ap (λ (n : ℕ). n * p.sheet.slots + slots_of ps cs) (sym h.0.height) ∙ ap (λ (n : ℕ). length rows * p.sheet.slots + n) more.slots;
    }

-- ---- pages

or_parts : (a b : Bool) → (a || b) ≡ true → (a ≡ true) ⊎ (b ≡ true)
or_parts true b h = inl refl
or_parts false b h = inr h

or_first : (a b : Bool) → a ≡ true → (a || b) ≡ true
or_first true b h = refl
or_first false b h = absurd cc

abbrev is_within : ℕ → Bool
is_within label = nat_le MEMORY_LABEL label && nat_lt label PUBLIC_LABEL

third_label : (label : ℕ) → (is_within label ≡ true) ⊎ (nat_eq label PUBLIC_LABEL ≡ true) → ((MEMORY_LABEL ≤ label) × (label < PUBLIC_LABEL)) ⊎ (label ≡ PUBLIC_LABEL)
third_label label (inl h) = let a = and_parts (nat_le MEMORY_LABEL label) (nat_lt label PUBLIC_LABEL) h in inl (leb-true MEMORY_LABEL label a.0, ltb-true label PUBLIC_LABEL a.1)
third_label label (inr h) = inr (eqb-true label PUBLIC_LABEL h)

second_label : (label : ℕ) → (nat_eq label (REGISTER_LABEL + 1) ≡ true) ⊎ ((is_within label || nat_eq label PUBLIC_LABEL) ≡ true)
    → (label ≡ REGISTER_LABEL + 1) ⊎ (((MEMORY_LABEL ≤ label) × (label < PUBLIC_LABEL)) ⊎ (label ≡ PUBLIC_LABEL))
second_label label (inl h) = inl (eqb-true label (REGISTER_LABEL + 1) h)
second_label label (inr h) = inr (third_label label (or_parts (is_within label) (nat_eq label PUBLIC_LABEL) h))

first_label : (label : ℕ) → (nat_eq label REGISTER_LABEL ≡ true) ⊎ ((nat_eq label (REGISTER_LABEL + 1) || (is_within label || nat_eq label PUBLIC_LABEL)) ≡ true) → IsMachineLabel label
first_label label (inl h) = inl (eqb-true label REGISTER_LABEL h)
first_label label (inr h) = inr (second_label label (or_parts (nat_eq label (REGISTER_LABEL + 1)) (is_within label || nat_eq label PUBLIC_LABEL) h))

label_is : (label : ℕ) → is_machine_label label ≡ true → IsMachineLabel label
label_is label h = first_label label (or_parts (nat_eq label REGISTER_LABEL) (nat_eq label (REGISTER_LABEL + 1) || (is_within label || nat_eq label PUBLIC_LABEL)) h)

is_label : (label : ℕ) → IsMachineLabel label → is_machine_label label ≡ true
is_label label (inl e) = or_first (nat_eq label REGISTER_LABEL) _ (eq-eqb label REGISTER_LABEL e)
is_label label (inr (inl e)) = or_true (nat_eq label REGISTER_LABEL) _ (or_first (nat_eq label (REGISTER_LABEL + 1)) _ (eq-eqb label (REGISTER_LABEL + 1) e))
is_label label (inr (inr (inl h))) =
    or_true (nat_eq label REGISTER_LABEL) _ (or_true (nat_eq label (REGISTER_LABEL + 1)) _ (or_first (is_within label) _ (and_from _ _ (le-leb MEMORY_LABEL label h.0) (lt-ltb label PUBLIC_LABEL h.1))))
is_label label (inr (inr (inr e))) =
    or_true (nat_eq label REGISTER_LABEL) _ (or_true (nat_eq label (REGISTER_LABEL + 1)) _ (or_true (is_within label) _ (eq-eqb label PUBLIC_LABEL e)))

abbrev PagesPass : Stand → PageAt → List Touched → Type 0
PagesPass at place pages = Each (λ (place : PageAt) (page : Touched). page_test at.number place page ≡ None) next_page place pages

record PagePasses (place : PageAt) (page : Touched) : Type 0 where
  order : place.least ≤ page.label
  label : IsMachineLabel page.label

page_passes : (at : Stand) (place : PageAt) (page : Touched) → page_test at.number place page ≡ None → PagePasses place page
page_passes at place page h =
    let n = neither (want (nat_le place.least page.label) (reason.PageOrder at.number place.number)) (want (is_machine_label page.label) (reason.PageSpace at.number place.number)) h in
    record { order = leb-true place.least page.label (want_so _ _ n.0); label = label_is page.label (want_so _ _ n.1) }

pass_page : (at : Stand) (place : PageAt) (page : Touched) → place.least ≤ page.label → IsMachineLabel page.label → page_test at.number place page ≡ None
pass_page at place page order label =
    both_none _ _ (so_want _ (reason.PageOrder at.number place.number) (le-leb place.least page.label order)) (so_want _ (reason.PageSpace at.number place.number) (is_label page.label label))

pub labels : (at : Stand) (place : PageAt) (pages : List Touched) → PagesPass at place pages → AllByRecursion (λ (page : Touched). IsMachineLabel page.label) pages
labels at place [] h = tt
labels at place (p ∷ ps) h = ((page_passes at place p h.0).label, labels at (next_page place p) ps h.1)

pub rising : (at : Stand) (place : PageAt) (pages : List Touched) → PagesPass at place pages → IsStrictlyIncreasing (map label_of pages)
rising at place [] h k low = absurd (omega (arith, low))
rising at place (p ∷ []) h k low = absurd (omega (arith, low))
rising at place (p ∷ q ∷ ps) h zero low = let o = (page_passes at (next_page place p) q h.1.0).order in omega (arith, o)
rising at place (p ∷ q ∷ ps) h (suc k) low =
    let here : suc (k + 1) ≡ suc k + 1 = omega arith in
    subst (λ (j : ℕ). slice_index (map label_of (q ∷ ps)) k < slice_index (map label_of (p ∷ q ∷ ps)) j) here (rising at (next_page place p) (q ∷ ps) h.1 k (omega (arith, low)))

pages_pass : (at : Stand) (place : PageAt) (p : Touched) (ps : List Touched) → place.least ≤ p.label → IsStrictlyIncreasing (map label_of (p ∷ ps)) → AllByRecursion IsMachinePage (p ∷ ps) → PagesPass at place (p ∷ ps)
pages_pass at place p [] low h all = (pass_page at place p low all.0.label, tt)
pages_pass at place p (q ∷ ps) low h all =
    let first = h 0 (omega arith) in (
      pass_page at place p low all.0.label,
      pages_pass at (next_page place p) q ps (omega (arith, first)) (λ k lt.
          let here : suc k + 1 ≡ suc (k + 1) = omega arith in
          subst (λ (j : ℕ). slice_index (map label_of (q ∷ ps)) k < slice_index (map label_of (p ∷ q ∷ ps)) j) here (h (suc k) (omega (arith, lt)))) all.1,
    )

all_pages_pass : (at : Stand) (pages : List Touched) → IsStrictlyIncreasing (map label_of pages) → AllByRecursion IsMachinePage pages → PagesPass at first_page pages
all_pages_pass at [] h all = tt
all_pages_pass at (p ∷ ps) h all = pages_pass at first_page p ps (omega arith) h all

machine_pages : (pages : List Touched) → AllByRecursion IsCanonicalPage pages → AllByRecursion (λ (page : Touched). IsMachineLabel page.label) pages → AllByRecursion IsMachinePage pages
machine_pages [] a b = tt
machine_pages (p ∷ ps) a b = (record { label = b.0; whole = a.0.whole }, machine_pages ps a.1 b.1)

-- ---- the balance

none_is : {A : Type 0} (o : Option A) → IsNone o → o ≡ None
none_is None h = refl
none_is (Some a) h = absurd cc

is_none : {A : Type 0} (o : Option A) → o ≡ None → IsNone o
is_none None h = refl
is_none (Some a) h = absurd cc

even : (events : List Event) → least_uneven events ≡ None → Balanced events
even events h = (least_uneven_is events).0.0 (is_none (least_uneven events) h)

none_uneven : (events : List Event) → Balanced events → least_uneven events ≡ None
none_uneven events h = none_is (least_uneven events) ((least_uneven_is events).0.1 h)

-- ---- the end

code_if : (b : Bool) (found code : ℕ) → cond b (Some found) None ≡ Some code → (b ≡ true) × (found ≡ code)
code_if true found code h = (refl, cc)
code_if false found code h = absurd cc

ends_by : (program : List VmInstr) (pc code : ℕ) (o : Option VmInstr) → find (λ r. r.pc == pc) program ≡ o → option_and_then code_of o ≡ Some code → Terminates program pc code
ends_by program pc code None is h = absurd cc
ends_by program pc code (Some row) is h =
    let f = found program pc row is in
    let c = code_if (nat_eq row.op TERMINATE) (slice_index row.imm 0) code h in
    record { row = row; stands = f.stands; here = f.here; is_end = eqb-true row.op TERMINATE c.0; states = c.1 }

pub code_ends : (program : List VmInstr) (pc code : ℕ) → exit_code program pc ≡ Some code → Terminates program pc code
code_ends program pc code h = ends_by program pc code (find (λ r. r.pc == pc) program) refl h

pub ends_code : (program : List VmInstr) (pc code : ℕ) → RisesFrom 0 program → Terminates program pc code → exit_code program pc ≡ Some code
ends_code program pc code rises t =
    let is : find (λ r. r.pc == pc) program ≡ Some t.row = finds program pc t.row rises (record { stands = t.stands; here = t.here }) in
    rw is (rw (eq-eqb t.row.op TERMINATE t.is_end) (ap (λ (n : ℕ). Some n) t.states))

end_so : (program : List VmInstr) (s : Segment) (ends : Bool) (o : Option ℕ) (why : Reason) → exit_code program s.pc_end ≡ o → want (not ends || is_some o) why ≡ None → ends ≡ true → (code : ℕ) × Terminates program s.pc_end code
end_so program s true None why is h e = absurd cc
end_so program s true (Some code) why is h e = (code, code_ends program s.pc_end code is)
end_so program s false o why is h e = absurd cc

so_end : (program : List VmInstr) (s : Segment) (ends : Bool) (why : Reason) → RisesFrom 0 program → (ends ≡ true → (code : ℕ) × Terminates program s.pc_end code) → want (not ends || is_some (exit_code program s.pc_end)) why ≡ None
so_end program s false why rises h = refl
so_end program s true why rises h = let t = h refl in rw (ends_code program s.pc_end t.0 rises t.1) refl

-- ---- the start

begins_so : (start : Option Before) (s : Segment) → has_root start s.start_root ≡ true → has_pc start s.pc_start ≡ true → BeginsAt start s
begins_so None s a b = tt
begins_so (Some start) s a b = (same_text _ _ (sym a), eqb-true _ _ b)

has_start : (start : Option Before) (s : Segment) → BeginsAt start s → (has_root start s.start_root ≡ true) × (has_pc start s.pc_start ≡ true)
has_start None s h = (refl, refl)
has_start (Some start) s h = (are_same _ _ h.0, eq-eqb _ _ h.1)

-- ---- the segment

-- what the tests of a segment say
pub record AllPassed (x : System) (program : List VmInstr) (start : Option Before) (at : Stand) (s : Segment) : Type 0 where
  pub heights : slots_test x at.number s.height_codes ≡ None
  pub rows : EachRow RowHolds x.parts s.tables
  pub pages : Each (λ (place : PageAt) (page : Touched). page_test at.number place page ≡ None) next_page first_page s.pages
  pub siblings : siblings_test x program at.number s (length s.siblings) ≡ None
  pub whole : whole_test program start at.number s ≡ None

pub digests : (ds : List (List ℕ)) → AllByRecursion IsDigest ds → AreDigests ds
digests ds h = All-from_recursion (λ (d : List ℕ). length d ≡ 32) ds (all_weaker IsDigest (λ (d : List ℕ). length d ≡ 32) (λ d k. k.size) ds h)

pub stands : (x : System) (program : List VmInstr) (program_len : ℕ) (limits : Limits) (start : Option Before) (at : Stand) (s : Segment)
    → IsCanonicalSegment limits (record { widths = map width_of x.parts; program_len = program_len }) s → AllPassed x program start at s → SegmentStands x program start s
unfolding labels_of
stands x program program_len limits start at s canonical passed =
    let tables = tables_so limits.greatest_code x.parts s.height_codes s.tables canonical.tables in
    let sib = neither (balance_test at.number (segment_events x program s)) (number_test at.number s.pages (length s.siblings)) passed.siblings in
    let a = neither (start_root_test at.number start s.start_root s.pages s.siblings) _ passed.whole in
    let b = neither (end_root_test at.number s.end_root s.pages s.siblings) _ a.1 in
    let c = neither (start_pc_test at.number start s.pc_start) (end_test at.number program s.ends s.pc_end) b.1 in
    let roots = and_parts (has_root start s.start_root) (same_bytes s.start_root (opening_root (labels_of s.pages) (old_bytes_at s.pages) s.siblings)) (want_so _ (reason.RootStart at.number) a.0) in
    record {
      holds = record {
        count = tables.number;
        are_rows = tables.rows;
        hold = passed.rows;
        slots = subst (λ (n : ℕ). n < 2 ^ x.time_bits) tables.slots (ltb-true (slots_of x.parts s.height_codes) (2 ^ x.time_bits) (want_so _ (reason.SlotSum at.number) passed.heights));
        balanced = even (segment_events x program s) (no_reason (uneven_reason at.number) (least_uneven (segment_events x program s)) sib.0);
        rising = rising at first_page s.pages passed.pages;
        pages = machine_pages s.pages canonical.pages (labels at first_page s.pages passed.pages);
        digests = digests s.siblings canonical.siblings;
        roots = record {
          number = eqb-true _ _ (want_so _ _ sib.1);
          old_root = same_text _ _ (sym roots.1);
          new_root = same_text _ _ (sym (want_so _ (reason.RootEnd at.number) b.0));
        };
      };
      begins = begins_so start s roots.0 (want_so _ (reason.PcChain at.number) c.0);
      ends = end_so program s s.ends (exit_code program s.pc_end) (reason.NotTerminate at.number) refl c.1;
    }

pub passes : (x : System) (program : List VmInstr) (program_len : ℕ) (limits : Limits) (start : Option Before) (at : Stand) (s : Segment) → RisesFrom 0 program
    → IsCanonicalSegment limits (record { widths = map width_of x.parts; program_len = program_len }) s → SegmentStands x program start s → AllPassed x program start at s
unfolding labels_of
passes x program program_len limits start at s rises canonical stands =
    let tables = tables_so limits.greatest_code x.parts s.height_codes s.tables canonical.tables in
    let h = stands.holds in
    let begins = has_start start s stands.begins in
    record {
      heights = so_want _ (reason.SlotSum at.number) (lt-ltb (slots_of x.parts s.height_codes) (2 ^ x.time_bits) (subst (λ (n : ℕ). n < 2 ^ x.time_bits) (sym tables.slots) h.slots));
      rows = h.hold;
      pages = all_pages_pass at s.pages h.rising h.pages;
      siblings = both_none _ _ (ap (option_map (uneven_reason at.number)) (none_uneven (segment_events x program s) h.balanced))
          (so_want _ (reason.Siblings at.number (siblings_needed (labels_of s.pages)) (length s.siblings)) (eq-eqb _ _ h.roots.number));
      whole = both_none _ _ (so_want _ (reason.RootStart at.number) (and_from _ _ begins.0 (are_same _ _ h.roots.old_root)))
          (both_none _ _ (so_want _ (reason.RootEnd at.number) (are_same _ _ h.roots.new_root)) (both_none _ _ (so_want _ (reason.PcChain at.number) begins.1) (so_end program s s.ends (reason.NotTerminate at.number) rises stands.ends)));
    }
