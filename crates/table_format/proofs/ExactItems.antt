-- Each item is read exactly.
use Rattle.std.proofs.Common.{◌≡◌, ℕ, zero, suc, ◌+◌, ◌<◌, ◌≤◌, Bool, true, false, ◌&&◌, nat_eq, nat_lt, nat_le, List, [], ◌∷◌, ◌++◌, length, get_or, None, refl, sym, ap, subst, arith, lit<}
use Rattle.std.specs.List.{AllByRecursion, flat_map}
use Rattle.std.proofs.lemmas.Bool.{ltb-true, lt-ltb, leb-true, le-leb, eq-eqb, and_parts, and_from}
use Rattle.readings.specs.Readings.{Reading, gives, raw, chain}
use Rattle.readings.specs.Exact.{Exact, Each, IsBytes as AreBytes}
use Rattle.readings.proofs.Exacts.{exact_gives, exact_raw, exact_number, exact_seen, exact_both, exact_unless, exact_only, exact_chain, exact_so}
use Rattle.vm_field.specs.Field.{modulus}
use Rattle.vm_isa.specs.Words.{IsBytes}
use Rattle.vm_trace.specs.declared.count.CountEntry.{CountEntry}
use Rattle.vm_trace.specs.declared.page.Touched.{Touched}
use Rattle.vm_trace.specs.Canonical.{IsNumber, IsElement, IsDigest, HasWidth, IsEntry, AreEntries, IsCountList, IsCanonicalPage, height_of}
use Rattle.vm_trace.specs.Limits.{Limits}
use Rattle.vm_trace.specs.Pages.{IsLeaf}
use Rattle.table_format.specs.declared.reason.Reason.{Reason}
use Rattle.table_format.specs.declared.reason.Reason.TheVariants as reason
use Rattle.table_format.specs.Order
use Rattle.table_format.specs.Order.{want, same_bytes, PageAt, first_page, next_page, Stand, Tests, list, next_place, code, row, rows, tables, entry, entry_of, is_entry, next_least, entries, page, touched_of, pages}
use Rattle.table_format.specs.Texts.{number_text, byte_text, flag_text, raw_text, counted_text, entry_text, rows_text, page_text}

-- ---- tests

pub want_so : (b : Bool) (e : Reason) → want b e ≡ None → b ≡ true
want_so true e h = refl
want_so false e h = absurd cc

pub so_want : (b : Bool) (e : Reason) → b ≡ true → want b e ≡ None
so_want true e h = refl
so_want false e h = absurd cc

itself : (xs : List ℕ) → same_bytes xs xs ≡ true
itself [] = refl
itself (y ∷ ys) = and_from (nat_eq y y) (same_bytes ys ys) (eq-eqb y y refl) (itself ys)

pub are_same : (a b : List ℕ) → a ≡ b → same_bytes a b ≡ true
are_same a b e = subst (λ k. same_bytes a k ≡ true) e (itself a)

-- ---- lists

module _ {S V : Type 0} where
  pub all_of_each : (P : V → Type 0) (next : S → V → S) (x : S) (vs : List V) → Each (λ s v. P v) next x vs → AllByRecursion P vs
  all_of_each P next x [] h = tt
  all_of_each P next x (v ∷ vs) h = (h.0, all_of_each P next (next x v) vs h.1)

  pub each_of_all : (P : V → Type 0) (next : S → V → S) (x : S) (vs : List V) → AllByRecursion P vs → Each (λ s v. P v) next x vs
  each_of_all P next x [] h = tt
  each_of_all P next x (v ∷ vs) h = (h.0, each_of_all P next (next x v) vs h.1)

  -- what holds of each, and what holds of each by its place
  pub parted : (P : V → Type 0) (Q : S → V → Type 0) (next : S → V → S) (x : S) (vs : List V) → Each (λ s v. P v × Q s v) next x vs → AllByRecursion P vs × Each Q next x vs
  parted P Q next x [] h = (tt, tt)
  parted P Q next x (v ∷ vs) h = let more = parted P Q next (next x v) vs h.1 in ((h.0.0, more.0), (h.0.1, more.1))

  pub joined : (P : V → Type 0) (Q : S → V → Type 0) (next : S → V → S) (x : S) (vs : List V) → AllByRecursion P vs → Each Q next x vs → Each (λ s v. P v × Q s v) next x vs
  joined P Q next x [] a b = tt
  joined P Q next x (v ∷ vs) a b = ((a.0, b.0), joined P Q next (next x v) vs a.1 b.1)

  -- so many of one kind
  pub exact_times : {r : S → Reading Reason V} {text : V → List ℕ} {Good : V → Type 0} (next : S → V → S) → ((x : S) → Exact (r x) text Good) → (n : ℕ) (x : S)
      → Exact (chain r next n x) (flat_map text) (λ vs. (length vs ≡ n) × AllByRecursion Good vs)
  exact_times {Good = Good} next y n x = exact_so (exact_chain next y n x) (λ vs h. (h.0, all_of_each Good next x vs h.1)) (λ vs h. (h.0, each_of_all Good next x vs h.1))

  -- a list behind its number
  pub exact_list : {told : Reading Reason ℕ} {Told : ℕ → Type 0} {r : S → Reading Reason V} {text : V → List ℕ} {Good : S → V → Type 0} (next : S → V → S) → Exact told number_text Told → ((x : S) → Exact (r x) text (Good x)) → (x : S)
      → Exact (list told r next x) (counted_text text) (λ vs. Told (length vs) × Each Good next x vs)
  exact_list {Told = Told} {text = text} {Good} next t y x = exact_seen (λ p. p.1) (exact_both t (λ n h. exact_chain next y n x))
      (λ p h. ((subst Told (sym h.1.0) h.0, h.1.1), ap (λ (n : ℕ). number_text n ++ flat_map text p.1) (sym h.1.0)))
      (λ vs h. ((length vs, vs), refl, (h.0, (refl, h.1))))

-- ---- bytes

front_bytes : (v rest : List ℕ) → AreBytes (v ++ rest) → IsBytes v
front_bytes [] rest h = tt
front_bytes (b ∷ v) rest h = (h 0, front_bytes v rest (λ i. h (suc i)))

pub exact_bytes : (n : ℕ) → Exact (raw reason.Cut n) raw_text (λ v. (length v ≡ n) × IsBytes v)
exact_bytes n = record {
  found = λ s t v h e. let q = (exact_raw reason.Cut n).found s t v h e in ((q.0, front_bytes v t.bytes (subst AreBytes q.1.parts h)), q.1);
  again = λ at v rest good. (exact_raw reason.Cut n).again at v rest good.0;
}

one_byte : (bytes : List ℕ) → length bytes ≡ 1 → IsBytes bytes → (get_or bytes 0 0 < 256) × (bytes ≡ byte_text (get_or bytes 0 0))
one_byte [] h each = absurd (omega (arith, h))
one_byte (b ∷ []) h each = (each.0, refl)
one_byte (b ∷ c ∷ bytes) h each = absurd (omega (arith, h))

pub exact_byte : Exact Order.byte byte_text (λ b. b < 256)
exact_byte = exact_seen (λ bytes. get_or bytes 0 0) (exact_bytes 1) (λ a h. one_byte a h.0 h.1) (λ b h. (byte_text b, refl, (refl, (h, tt))))

flag_of : (n : ℕ) → nat_lt n 2 ≡ true → byte_text n ≡ flag_text (nat_eq n 1)
flag_of zero h = refl
flag_of (suc zero) h = refl
flag_of (suc (suc n)) h = absurd (omega (arith, ltb-true (suc (suc n)) 2 h))

byte_of : (b : Bool) → (n : ℕ) × (nat_eq n 1 ≡ b) × ((n < 256) × (nat_lt n 2 ≡ true))
byte_of true = (1, refl, (lit< tt, refl))
byte_of false = (0, refl, (lit< tt, refl))

pub exact_flag : Exact Order.flag flag_text (λ b. Unit {0})
exact_flag = exact_seen (λ n. nat_eq n 1) (exact_only (λ n. nat_lt n 2) reason.Marker exact_byte) (λ n h. (tt, flag_of n h.1)) (λ b h. byte_of b)

pub exact_element : Exact Order.element number_text IsElement
exact_element = exact_so (exact_only (λ n. nat_lt n modulus) reason.NotCanonical (exact_number reason.Cut)) (λ n h. ltb-true n modulus h.1) (λ n h. (omega (arith, h), lt-ltb n modulus h))

pub exact_digest : Exact Order.digest raw_text IsDigest
exact_digest = exact_so (exact_bytes 32) (λ d h. record { size = h.0; bytes = h.1 }) (λ d h. (h.size, h.bytes))

pub exact_leaf : Exact Order.leaf raw_text IsLeaf
exact_leaf = exact_so (exact_bytes 64) (λ d h. record { size = h.0; bytes = h.1 }) (λ d h. (h.size, h.bytes))

-- ---- heights and rows

pub exact_code : (limits : Limits) (at : Stand) (table : ℕ) → limits.greatest_code < 256 → Exact (code limits at table) byte_text (λ c. c ≤ limits.greatest_code)
exact_code limits at table small = exact_so (exact_unless (λ c. want (nat_le c limits.greatest_code) (reason.Height at.number table)) exact_byte)
    (λ c h. leb-true c limits.greatest_code (want_so _ (reason.Height at.number table) h.1)) (λ c h. (omega (arith, h, small), so_want _ (reason.Height at.number table) (le-leb c limits.greatest_code h)))

exact_row : (t : Tests) (at : Stand) (table width place : ℕ) → Exact (row t at table width place) (flat_map number_text) (λ r. HasWidth width r × (t.row at table place r ≡ None))
exact_row t at table width place = exact_so (exact_unless (t.row at table place) (exact_times next_place (λ i. exact_element) width 0))
    (λ r h. (record { wide = h.0.0; elements = h.0.1 }, h.1)) (λ r h. ((h.0.wide, h.0.elements), h.1))

-- the rows of a table
pub record IsRead (t : Tests) (at : Stand) (table width height : ℕ) (rs : List (List ℕ)) : Type 0 where
  pub number : length rs ≡ height
  pub each : AllByRecursion (HasWidth width) rs
  pub pass : Each (λ place r. t.row at table place r ≡ None) next_place 0 rs

exact_rows : (t : Tests) (at : Stand) (table width height : ℕ) → Exact (rows t at table width height) rows_text (IsRead t at table width height)
exact_rows t at table width height = exact_so (exact_chain next_place (exact_row t at table width) height 0)
    (λ rs h. let both = parted (HasWidth width) (λ place r. t.row at table place r ≡ None) next_place 0 rs h.1 in record { number = h.0; each = both.0; pass = both.1 })
    (λ rs h. (h.number, joined (HasWidth width) (λ place r. t.row at table place r ≡ None) next_place 0 rs h.each h.pass))

-- table by table
abbrev pub AreRead : Tests → Stand → ℕ → List ℕ → List ℕ → List (List (List ℕ)) → Type 0
AreRead t at table [] cs ts = ts ≡ []
AreRead t at table (w ∷ ws) [] ts = ts ≡ []
AreRead t at table (w ∷ ws) (c ∷ cs) [] = ⊥
AreRead t at table (w ∷ ws) (c ∷ cs) (rs ∷ ts) = IsRead t at table w (height_of c) rs × AreRead t at (table + 1) ws cs ts

no_tables : Exact {R = Reason} (gives []) (flat_map rows_text) (λ (ts : List (List (List ℕ))). ts ≡ [])
no_tables = exact_seen (λ ts. ts) (exact_gives []) (λ ts h. (h, ap (flat_map rows_text) (sym h))) (λ ts h. (ts, refl, h))

apart : (t : Tests) (at : Stand) (table w c : ℕ) (ws cs : List ℕ) (ts : List (List (List ℕ))) → AreRead t at table (w ∷ ws) (c ∷ cs) ts
    → (p : List (List ℕ) × List (List (List ℕ))) × (p.0 ∷ p.1 ≡ ts) × (IsRead t at table w (height_of c) p.0 × AreRead t at (table + 1) ws cs p.1)
apart t at table w c ws cs [] h = elim h [ ]
apart t at table w c ws cs (rs ∷ ts) h = ((rs, ts), refl, h)

pub exact_tables : (t : Tests) (at : Stand) (table : ℕ) (ws cs : List ℕ) → Exact (tables t at table ws cs) (flat_map rows_text) (AreRead t at table ws cs)
unfolding tables
exact_tables t at table [] cs = no_tables
exact_tables t at table (w ∷ ws) [] = no_tables
exact_tables t at table (w ∷ ws) (c ∷ cs) =
    exact_seen {other = flat_map rows_text} {Fair = AreRead t at table (w ∷ ws) (c ∷ cs)} (λ p. p.0 ∷ p.1) (exact_both (exact_rows t at table w (height_of c)) (λ rs h. exact_tables t at (table + 1) ws cs))
    (λ p h. (h, refl)) (λ ts h. apart t at table w c ws cs ts h)

-- ---- entries and pages

exact_entry : (end least : ℕ) → Exact (entry end least) entry_text (IsEntry end least)
exact_entry end least = exact_so (exact_only (is_entry end least) reason.CountEntry
    (exact_seen {other = entry_text} {Fair = λ e. IsNumber e.place × IsNumber e.count} entry_of (exact_both (exact_number reason.Cut) (λ p h. exact_number reason.Cut)) (λ p h. (h, refl)) (λ e h. ((e.place, e.count), refl, h))))
    (λ e h.
    let a = and_parts (nat_le least e.place) (nat_lt e.place end && nat_lt 0 e.count) h.1 in
    let b = and_parts (nat_lt e.place end) (nat_lt 0 e.count) a.1 in
    record { low = leb-true least e.place a.0; high = ltb-true e.place end b.0; used = ltb-true 0 e.count b.1; place = h.0.0; count = h.0.1 })
    (λ e h. ((h.place, h.count), and_from _ _ (le-leb least e.place h.low) (and_from _ _ (lt-ltb e.place end h.high) (lt-ltb 0 e.count h.used))))

are_entries : (end least : ℕ) (es : List CountEntry) → Each (IsEntry end) next_least least es → AreEntries end least es
are_entries end least [] h = tt
are_entries end least (e ∷ es) h = (h.0, are_entries end (e.place + 1) es h.1)

each_entry : (end least : ℕ) (es : List CountEntry) → AreEntries end least es → Each (IsEntry end) next_least least es
each_entry end least [] h = tt
each_entry end least (e ∷ es) h = (h.0, each_entry end (e.place + 1) es h.1)

pub exact_entries : (end : ℕ) → Exact (entries end) (counted_text entry_text) (IsCountList end)
exact_entries end = exact_so (exact_list next_least (exact_number reason.Cut) (exact_entry end) 0)
    (λ es h. record { number = h.0; each = are_entries end 0 es h.1 }) (λ es h. (h.number, each_entry end 0 es h.each))

exact_page : (t : Tests) (at : Stand) (place : PageAt) → Exact (page t at place) page_text (λ p. IsCanonicalPage p × (t.page at place p ≡ None))
exact_page t at place = exact_so (exact_unless (t.page at place)
    (exact_seen {other = page_text} {Fair = λ g. IsNumber g.label × (IsLeaf g.old × (IsLeaf g.new × ((length g.times ≡ 16) × AllByRecursion IsElement g.times)))} touched_of
    (exact_both (exact_number reason.Cut) (λ a h. exact_both exact_leaf (λ b i. exact_both exact_leaf (λ c j. exact_times next_place (λ i. exact_element) 16 0))))
    (λ q h. (h, refl)) (λ g h. ((g.label, (g.old, (g.new, g.times))), refl, h))))
    (λ g h. (record { label = h.0.0; whole = record { old = h.0.1.0; new = h.0.1.1.0; times = h.0.1.1.1.0 }; times = h.0.1.1.1.1 }, h.1))
    (λ g h. ((h.0.label, (h.0.whole.old, (h.0.whole.new, (h.0.whole.times, h.0.times)))), h.1))

-- the pages of a segment
pub record ArePagesRead (t : Tests) (at : Stand) (ps : List Touched) : Type 0 where
  pub number : IsNumber (length ps)
  pub each : AllByRecursion IsCanonicalPage ps
  pub pass : Each (λ (place : PageAt) (p : Touched). t.page at place p ≡ None) next_page first_page ps

pub exact_pages : (t : Tests) (at : Stand) → Exact (pages t at) (counted_text page_text) (ArePagesRead t at)
exact_pages t at = exact_so (exact_list next_page (exact_number reason.Cut) (exact_page t at) first_page)
    (λ ps h. let both = parted IsCanonicalPage (λ (place : PageAt) (p : Touched). t.page at place p ≡ None) next_page first_page ps h.1 in record { number = h.0; each = both.0; pass = both.1 })
    (λ ps h. (h.number, joined IsCanonicalPage (λ (place : PageAt) (p : Touched). t.page at place p ≡ None) next_page first_page ps h.each h.pass))
