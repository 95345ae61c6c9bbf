-- A segment and a file are read exactly.
use Rattle.std.proofs.Common.{◌≡◌, ℕ, zero, suc, ◌+◌, ◌<◌, ◌≤◌, Bool, true, false, nat_eq, nat_lt, nat_le, List, [], ◌∷◌, ◌++◌, length, Option, None, refl, sym, ap, subst, arith, lit<}
use Rattle.std.specs.List.{AllByRecursion, flat_map}
use Rattle.std.specs.Cmp.Lexicographic.{same_text}
use Rattle.std.proofs.lemmas.Bool.{ltb-true, lt-ltb, leb-true, le-leb, eqb-true, and_parts, and_from}
use Rattle.readings.specs.Exact.{Exact, Each, AreListed}
use Rattle.readings.proofs.Exacts.{exact_raw, exact_number, exact_seen, exact_both, exact_unless, exact_only, exact_listed, exact_so, no_reason_exactly, one_spelling}
use Rattle.vm_trace.specs.declared.count.TheConstants.{XOR_ROWS, RANGE_ROWS, SHA_ROWS}
use Rattle.vm_trace.specs.Canonical.{Shape, IsNumber, IsElement, IsDigest, AreTables, IsCountList, IsCanonicalSegment, IsCanonicalClaim}
use Rattle.vm_trace.specs.File.{Segment, File}
use Rattle.vm_trace.specs.Limits.{Limits, limits_of}
use Rattle.vm_trace.specs.Pages.{IsLeaf}
use Rattle.table_format.specs.declared.reason.Reason.{Reason}
use Rattle.table_format.specs.declared.reason.Reason.TheVariants as reason
use Rattle.table_format.specs.Order
use Rattle.table_format.specs.Order.{want, same_bytes, Tests, no_tests, Stand, first_stand, next_stand, stand_after, first_page, next_page, codes, counts, siblings, segment_of, without_siblings, parts, segment, next_place, file_of, body, is_version, file, piece}
use Rattle.table_format.specs.Texts.{number_text, byte_text, flag_text, raw_text, counted_text, segment_text, body_text, head_text, file_text, piece_text, magic}
use Rattle.table_format.specs.Exactly.{RowsPass, Passes, AllPass, PassesFile, IsPassed, NoReasonExactly, NoReasonInAPiece, OneSpelling}
use Rattle.table_format.proofs.ExactItems.{want_so, so_want, all_of_each, each_of_all, exact_times, exact_list, exact_byte, exact_flag, exact_element, exact_digest, exact_leaf, exact_code, AreRead, exact_tables, exact_entries, ArePagesRead, exact_pages}

-- ---- the parts of a segment

exact_codes : (limits : Limits) (t : Tests) (at : Stand) (n : ℕ) → limits.greatest_code < 256
    → Exact (codes limits t at n) (flat_map byte_text) (λ cs. ((length cs ≡ n) × AllByRecursion (λ c. c ≤ limits.greatest_code) cs) × (t.heights at cs ≡ None))
exact_codes limits t at n small = exact_unless (t.heights at) (exact_times next_place (λ table. exact_code limits at table small) n 0)

exact_siblings : (t : Tests) (at : Stand) (s : Segment) → Exact (siblings t at s) (counted_text raw_text) (λ ds. (IsNumber (length ds) × (t.siblings at s (length ds) ≡ None)) × AllByRecursion IsDigest ds)
exact_siblings t at s = exact_so (exact_list next_place (exact_unless (t.siblings at s) (exact_number reason.Cut)) (λ i. exact_digest) 0)
    (λ ds h. (h.0, all_of_each IsDigest next_place 0 ds h.1)) (λ ds h. (h.0, each_of_all IsDigest next_place 0 ds h.1))

-- all that is read of a segment
abbrev Reads : Limits → Shape → Tests → Stand → Segment → Type 0
Reads limits shape t at s =
    (IsElement s.pc_start × (IsElement s.pc_end × (IsElement s.end_time × (Unit {0} × (IsDigest s.start_root × IsDigest s.end_root)))))
    × ((((length s.height_codes ≡ length shape.widths) × AllByRecursion (λ c. c ≤ limits.greatest_code) s.height_codes) × (t.heights at s.height_codes ≡ None))
    × (AreRead t at 0 shape.widths s.height_codes s.tables
    × ((IsCountList shape.program_len s.program × (IsCountList XOR_ROWS s.xor × (IsCountList RANGE_ROWS s.range × IsCountList SHA_ROWS s.constants)))
    × (ArePagesRead t at s.pages
    × ((IsNumber (length s.siblings) × (t.siblings at (record s { siblings = [] }) (length s.siblings) ≡ None)) × AllByRecursion IsDigest s.siblings)))))

exact_parts : (limits : Limits) (shape : Shape) (t : Tests) (at : Stand) → limits.greatest_code < 256 → Exact (parts limits shape t at) segment_text (Reads limits shape t at)
exact_parts limits shape t at small = exact_seen {other = segment_text} {Fair = Reads limits shape t at} segment_of
    (exact_both (exact_both exact_element (λ a h. exact_both exact_element (λ b h. exact_both exact_element (λ c h. exact_both exact_flag (λ d h. exact_both exact_digest (λ e h. exact_digest))))))
    (λ h i. exact_both (exact_codes limits t at (length shape.widths) small) (λ cs i. exact_both (exact_tables t at 0 shape.widths cs)
    (λ ts i. exact_both (exact_both (exact_entries shape.program_len) (λ a h. exact_both (exact_entries XOR_ROWS) (λ b h. exact_both (exact_entries RANGE_ROWS) (λ c h. exact_entries SHA_ROWS))))
    (λ ls i. exact_both (exact_pages t at) (λ ps i. exact_siblings t at (without_siblings h cs ts ls ps)))))))
    (λ p h. (h, refl))
    (λ s h. (
      ((s.pc_start, (s.pc_end, (s.end_time, (s.ends, (s.start_root, s.end_root))))), (s.height_codes, (s.tables, ((s.program, (s.xor, (s.range, s.constants))), (s.pages, s.siblings))))),
      refl,
      h,
    ))

-- ---- tables by widths and codes

tables_are : (greatest : ℕ) (t : Tests) (at : Stand) (table : ℕ) (ws cs : List ℕ) (ts : List (List (List ℕ))) → length cs ≡ length ws → AllByRecursion (λ c. c ≤ greatest) cs → AreRead t at table ws cs ts
    → AreTables greatest ws cs ts × RowsPass t at table ts
tables_are greatest t at table [] [] [] n low h = (tt, tt)
tables_are greatest t at table [] [] (rs ∷ ts) n low h = absurd cc
tables_are greatest t at table [] (c ∷ cs) ts n low h = absurd (omega (arith, n))
tables_are greatest t at table (w ∷ ws) [] ts n low h = absurd (omega (arith, n))
tables_are greatest t at table (w ∷ ws) (c ∷ cs) [] n low h = elim h [ ]
tables_are greatest t at table (w ∷ ws) (c ∷ cs) (rs ∷ ts) n low h =
    let more = tables_are greatest t at (table + 1) ws cs ts (omega (arith, n)) low.1 h.1 in
    ((record { low = low.0; height = h.0.number; each = h.0.each }, more.0), (h.0.pass, more.1))

-- as many codes as widths, none too great, and tables of them
record Spelled (greatest : ℕ) (t : Tests) (at : Stand) (table : ℕ) (ws cs : List ℕ) (ts : List (List (List ℕ))) : Type 0 where
  number : length cs ≡ length ws
  low : AllByRecursion (λ c. c ≤ greatest) cs
  read : AreRead t at table ws cs ts

spelled : (greatest : ℕ) (t : Tests) (at : Stand) (table : ℕ) (ws cs : List ℕ) (ts : List (List (List ℕ))) → AreTables greatest ws cs ts → RowsPass t at table ts → Spelled greatest t at table ws cs ts
spelled greatest t at table [] [] [] h pass = record { number = refl; low = tt; read = refl }
spelled greatest t at table [] [] (rs ∷ ts) h pass = elim h [ ]
spelled greatest t at table [] (c ∷ cs) [] h pass = elim h [ ]
spelled greatest t at table [] (c ∷ cs) (rs ∷ ts) h pass = elim h [ ]
spelled greatest t at table (w ∷ ws) [] [] h pass = elim h [ ]
spelled greatest t at table (w ∷ ws) [] (rs ∷ ts) h pass = elim h [ ]
spelled greatest t at table (w ∷ ws) (c ∷ cs) [] h pass = elim h [ ]
spelled greatest t at table (w ∷ ws) (c ∷ cs) (rs ∷ ts) h pass =
    let more = spelled greatest t at (table + 1) ws cs ts h.1 pass.1 in
    record { number = omega (arith, more.number); low = (h.0.low, more.low); read = (record { number = h.0.height; each = h.0.each; pass = pass.0 }, more.read) }

-- ---- a segment

abbrev Good : Limits → Shape → Tests → Stand → Segment → Type 0
Good limits shape t at s = IsCanonicalSegment limits shape s × Passes t at s

pub exact_segment : (limits : Limits) (shape : Shape) (t : Tests) → limits.greatest_code < 256 → (at : Stand) → Exact (segment limits shape t at) segment_text (Good limits shape t at)
exact_segment limits shape t small at = exact_so (exact_unless (t.segment at) (exact_parts limits shape t at small))
    (λ s h.
    let g = h.0 in
    let tables = tables_are limits.greatest_code t at 0 shape.widths s.height_codes s.tables g.1.0.0.0 g.1.0.0.1 g.1.1.0 in
    let ps = g.1.1.1.1.0 in (
      record {
        pc_start = g.0.0;
        pc_end = g.0.1.0;
        end_time = g.0.1.1.0;
        start_root = g.0.1.1.1.1.0;
        end_root = g.0.1.1.1.1.1;
        tables = tables.0;
        program = g.1.1.1.0.0;
        xor = g.1.1.1.0.1.0;
        range = g.1.1.1.0.1.1.0;
        constants = g.1.1.1.0.1.1.1;
        page_number = ps.number;
        pages = ps.each;
        sibling_number = g.1.1.1.1.1.0.0;
        siblings = g.1.1.1.1.1.1;
      },
      record { heights = g.1.0.1; rows = tables.1; pages = ps.pass; siblings = g.1.1.1.1.1.0.1; whole = h.1 },
    ))
    (λ s h.
    let g = h.0 in
    let tables = spelled limits.greatest_code t at 0 shape.widths s.height_codes s.tables g.tables h.1.rows in (
      (
        (g.pc_start, (g.pc_end, (g.end_time, (tt, (g.start_root, g.end_root))))),
        (
          ((tables.number, tables.low), h.1.heights),
          (
            tables.read,
            (
              (g.program, (g.xor, (g.range, g.constants))),
              (record { number = g.page_number; each = g.pages; pass = h.1.pages }, ((g.sibling_number, h.1.siblings), g.siblings)),
            ),
          ),
        ),
      ),
      h.1.whole,
    ))

-- ---- segments up to the last mark

record Runs (limits : Limits) (shape : Shape) (t : Tests) (n : ℕ) (at : Stand) (ss : List Segment) : Type 0 where
  few : length ss ≤ n
  canonical : AllByRecursion (IsCanonicalSegment limits shape) ss
  pass : AllPass t at ss

module _ (limits : Limits) (shape : Shape) (t : Tests) where
  abbrev Listed : ℕ → Stand → List Segment → Type 0
  Listed n at ss = AreListed t.follows t.closed (Good limits shape t) next_stand n at ss

  runs : (n : ℕ) (at : Stand) (ss : List Segment) → Listed n at ss → Runs limits shape t n at ss
  runs zero at [] h = record { few = omega arith; canonical = tt; pass = h }
  runs (suc n) at [] h = record { few = omega arith; canonical = tt; pass = h }
  runs zero at (s ∷ ss) h = absurd h
  runs (suc n) at (s ∷ ss) h =
      let more = runs n (next_stand at s) ss h.2 in
      record { few = omega (arith, more.few); canonical = (h.1.0, more.canonical); pass = (h.0, h.1.1, more.pass) }

  listed : (n : ℕ) (at : Stand) (ss : List Segment) → Runs limits shape t n at ss → Listed n at ss
  listed zero at [] r = r.pass
  listed (suc n) at [] r = r.pass
  listed zero at (s ∷ ss) r = absurd (omega (arith, r.few))
  listed (suc n) at (s ∷ ss) r =
      (r.pass.0, (r.canonical.0, r.pass.1), listed n (next_stand at s) ss (record { few = omega (arith, r.few); canonical = r.canonical.1; pass = r.pass.2 }))

-- ---- a file

small_by : (version : ℕ) (b : Bool) → nat_eq version 1 ≡ b → (limits_of version).greatest_code < 256
small_by version true is = rw is (lit< tt)
small_by version false is = rw is (lit< tt)

pub small : (version : ℕ) → (limits_of version).greatest_code < 256
small version = small_by version (nat_eq version 1) refl

-- what stands behind the head of a version
pub record IsBody (version : ℕ) (shape : Shape) (t : Tests) (f : File) : Type 0 where
  pub segments : AllByRecursion (IsCanonicalSegment (limits_of version) shape) f.segments
  pub claim : IsCanonicalClaim f
  pub passes : PassesFile t f

pub exact_body : (version : ℕ) (shape : Shape) (t : Tests) → Exact (body version shape t) body_text (λ f. (f.version ≡ version) × IsBody version shape t f)
exact_body version shape t = exact_so (exact_unless (λ f. t.claim (stand_after first_stand f.segments) f)
    (exact_seen {other = body_text} {Fair = λ f. (f.version ≡ version) × (Listed (limits_of version) shape t t.most first_stand f.segments × ((f.code < 256) × (IsLeaf f.public_bytes × ((length f.path ≡ 25) × AllByRecursion IsDigest f.path))))} (file_of version)
    (exact_both (exact_listed reason.TooManySegments t.follows t.closed Order.flag flag_text (segment (limits_of version) shape t) segment_text (Good (limits_of version) shape t) next_stand exact_flag (exact_segment (limits_of version) shape t (small version)) t.most first_stand)
    (λ ss h. exact_both exact_byte (λ c h. exact_both exact_leaf (λ p h. exact_times next_place (λ i. exact_digest) 25 0))))
    (λ p h. ((refl, h), refl))
    (λ f h. ((f.segments, (f.code, (f.public_bytes, f.path))), ap (λ (v : ℕ). file_of v (f.segments, (f.code, (f.public_bytes, f.path)))) (sym h.0), h.1))))
    (λ f h.
    let g = h.0.1 in
    let r = runs (limits_of version) shape t t.most first_stand f.segments g.0 in
    (h.0.0, record { segments = r.canonical; claim = record { code = g.1.0; public_bytes = g.1.1.0; levels = g.1.1.1.0; path = g.1.1.1.1 }; passes = record { few = r.few; segments = r.pass; claim = h.1 } }))
    (λ f h.
    let b = h.1 in (
      (
        h.0,
        (
          listed (limits_of version) shape t t.most first_stand f.segments (record { few = b.passes.few; canonical = b.segments; pass = b.passes.segments }),
          (b.claim.code, (b.claim.public_bytes, (b.claim.levels, b.claim.path))),
        ),
      ),
      b.passes.claim,
    ))

-- a version up to the greatest
pub record IsVersion (greatest version : ℕ) : Type 0 where
  pub first : 1 ≤ version
  pub last : version ≤ greatest
  pub number : IsNumber version

pub exact_head : (greatest : ℕ) → Exact (Order.head greatest) head_text (IsVersion greatest)
exact_head greatest = exact_seen {other = head_text} {Fair = IsVersion greatest} (λ p. p.1)
    (exact_both (exact_unless (λ m. want (same_bytes m magic) reason.Magic) (exact_raw reason.Cut 8)) (λ m h. exact_unless (λ v. want (is_version greatest v) (reason.Version v)) (exact_number reason.Cut)))
    (λ p h.
    let v = and_parts (nat_lt 0 p.1) (nat_le p.1 greatest) (want_so _ (reason.Version p.1) h.1.1) in
    (record { first = omega (arith, ltb-true 0 p.1 v.0); last = leb-true p.1 greatest v.1; number = h.1.0 }, ap (λ (m : List ℕ). m ++ number_text p.1) (same_text _ _ (sym (want_so _ reason.Magic h.0.1)))))
    (λ v h. ((magic, v), refl, ((refl, refl), (h.number, so_want _ (reason.Version v) (and_from _ _ (lt-ltb 0 v (omega (arith, h.first))) (le-leb v greatest h.last))))))

pub exact_file : (shape : ℕ → Shape) (t : ℕ → Tests) (greatest : ℕ) → Exact (file shape t greatest) file_text (IsPassed shape t greatest)
exact_file shape t greatest = exact_seen {other = file_text} {Fair = IsPassed shape t greatest} (λ p. p.1)
    (exact_both (exact_head greatest) (λ version h. exact_body version (shape version) (t version)))
    (λ p h.
    let whole : IsVersion greatest p.1.version × IsBody p.1.version (shape p.1.version) (t p.1.version) p.1 = subst (λ (v : ℕ). IsVersion greatest v × IsBody v (shape v) (t v) p.1) (sym h.1.0) (h.0, h.1.1) in (
      record {
        canonical = record { first = whole.0.first; version = whole.0.number; segments = whole.1.segments; claim = whole.1.claim };
        version = whole.0.last;
        passes = whole.1.passes;
      },
      ap (λ (v : ℕ). head_text v ++ body_text p.1) (sym h.1.0),
    ))
    (λ f h. (
      (f.version, f),
      refl,
      (
        record { first = h.canonical.first; last = h.version; number = h.canonical.version },
        (refl, record { segments = h.canonical.segments; claim = h.canonical.claim; passes = h.passes }),
      ),
    ))

-- ---- a segment alone

exact_piece : (version : ℕ) (shape : Shape) (t : Tests) (at : Stand) → Exact (piece (limits_of version) shape t at) piece_text (Good (limits_of version) shape t at)
exact_piece version shape t at = exact_seen {other = piece_text} {Fair = Good (limits_of version) shape t at} (λ p. p.1)
    (exact_both (exact_only (λ n. nat_eq n 1) reason.Marker exact_byte) (λ n h. exact_segment (limits_of version) shape t (small version) at))
    (λ p h. (h.1, ap (λ (n : ℕ). byte_text n ++ segment_text p.1) (eqb-true p.0 1 h.0.1)))
    (λ s h. ((1, s), refl, ((lit< tt, refl), h)))

-- ---- the laws

pub no_reason : NoReasonExactly
no_reason shape t greatest bytes are = no_reason_exactly reason.Trailing (exact_file shape t greatest) bytes are

pub no_reason_in_a_piece : NoReasonInAPiece
no_reason_in_a_piece version shape t at bytes are = no_reason_exactly reason.Trailing (exact_piece version shape t at) bytes are

-- without tests everything passes
abbrev none : Option Reason
none = None

each_passes : {S V : Type 0} (next : S → V → S) (x : S) (vs : List V) → Each (λ s v. none ≡ None) next x vs
each_passes next x [] = tt
each_passes next x (v ∷ vs) = (refl, each_passes next (next x v) vs)

rows_pass : (most : ℕ) (at : Stand) (table : ℕ) (ts : List (List (List ℕ))) → RowsPass (no_tests most) at table ts
rows_pass most at table [] = tt
rows_pass most at table (rs ∷ ts) = (each_passes next_place 0 rs, rows_pass most at (table + 1) ts)

pub all_pass : (most : ℕ) (at : Stand) (ss : List Segment) → AllPass (no_tests most) at ss
all_pass most at [] = refl
all_pass most at (s ∷ ss) = (
  refl,
  record { heights = refl; rows = rows_pass most at 0 s.tables; pages = each_passes next_page first_page s.pages; siblings = refl; whole = refl },
  all_pass most (next_stand at s) ss,
)

pub spelled_once : OneSpelling
spelled_once shape f g a b same =
    let most = length f.segments + length g.segments in
    let greatest = f.version + g.version in
    one_spelling (exact_file shape (λ v. no_tests most) greatest) f g
    (record { canonical = a; version = omega arith; passes = record { few = omega arith; segments = all_pass most first_stand f.segments; claim = refl } })
    (record { canonical = b; version = omega arith; passes = record { few = omega arith; segments = all_pass most first_stand g.segments; claim = refl } }) same
