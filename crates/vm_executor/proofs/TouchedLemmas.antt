-- The pages of a segment, gathered in the order of their labels.
use Rattle.std.proofs.Common.{◌≡◌, ℕ, ◌+◌, ◌*◌, ◌/◌, ◌%◌, ◌<◌, ◌≤◌, ◌⊎◌, inl, inr, true, cond, nat_eq, List, [], ◌∷◌, ◌++◌, length, map, get_or, slice_index, Option, Some, None, Contains, refl, sym, ap, ◌∙◌, subst, ⊎_elim, arith, length-append, zero, suc}
use Rattle.std.proofs.lemmas.List.{map-append}
use Rattle.std.proofs.Math.ListN.{get_or-append}
use Rattle.std.proofs.Math.Seq.{get_or-append_seam}
use Rattle.std.specs.List.{All, AllByRecursion}
use Rattle.std.specs.List.Sorted.{IsStrictlyIncreasing, IsStrictlySortedBy}
use Rattle.std.specs.Ordering.{nat_cmp}
use Rattle.std.specs.Cmp.{nat_cmp_is}
use Rattle.std.specs.declared.cmp.Ordering.TheVariants.{Less, Equal, Greater}
use Rattle.std.proofs.lemmas.Bool.{both_ways, cases_eq, cases_lt, eqb-true}
use Rattle.std.proofs.lemmas.List.Elements.{All-nil, All-cons, All-append, All-contains, All-map, Contains-append_left, Contains-append_right}
use Rattle.std.proofs.lemmas.Map.Keys.{sorted_head, sorted_tail}
use Rattle.air_core.specs.Orders.{Member}
use Rattle.vm_isa.specs.Blocks.{is_block}
use Rattle.vm_trace.specs.declared.page.Touched.{Touched}
use Rattle.vm_trace.specs.Pages.{block_word, page_space, block_pointer, IsMachineLabel, IsWhole}
use Rattle.vm_trace.specs.PageBlocks.{InPages, IsPage}
use Rattle.vm_trace.proofs.BlockLemmas.{block_inside}
use Rattle.vm_executor.specs.Pages.{AreTouched, HasAccess, begun_page}
use Rattle.vm_executor.specs.Memory.{Kept, AreKept, IsAtRest, IsIdle, IsSegment, entry_at, page_at, label_of, block_in, blocks_by, now_of, began_of, times_of}
use Rattle.vm_executor.proofs.KeepLemmas.{by_test, placed, place_of_block}

-- no block of the page was accessed
abbrev pub IsQuiet : Touched → Type 0
IsQuiet page = (block : ℕ) → block < 16 → slice_index page.times block ≡ 0

-- a page of the machine with an access
pub record IsOf (kept : Kept) (page : Touched) : Type 0 where
  pub accessed : HasAccess page
  pub stands : page_at kept.pages page.label ≡ Some page

-- Pages with an access, in order, of the entries but those that are left.
pub record Gathered (kept : Kept) (left : List (ℕ × ℕ)) (pages : List Touched) : Type 0 where
  pub keys : IsStrictlySortedBy nat_cmp (map (λ e. e.0) left)
  pub stand : All (λ e. entry_at kept.reached e.0 ≡ Some e.1) left
  pub rising : IsStrictlyIncreasing (map (λ page. page.label) pages)
  pub below : All (λ page. AllByRecursion (λ e. page.label < e.0) left) pages
  pub are : All (IsOf kept) pages
  pub passed : (label place : ℕ) (page : Touched) → entry_at kept.reached label ≡ Some place → page_at kept.pages label ≡ Some page → Contains left (label, place) ⊎ (Contains pages page ⊎ IsQuiet page)

-- ---- lists

some_page : (x y : Touched) → (Some x) ≡ (Some y) → x ≡ y
some_page x y h = cc

split : {X : Type 0} (x y : X) (xs : List X) → Contains (x ∷ xs) y → (x ≡ y) ⊎ Contains xs y
split x y xs (zero, within, is) = inl is
split x y xs (suc k, within, is) = inr (k, omega (arith, within), is)

none_in : {X : Type 0} (x : X) → Contains [] x → ⊥
none_in x h = omega (arith, h.1)

contained : {X : Type 0} (x : X) (xs : List X) → Member x xs → Contains xs x
contained x [] h = absurd h
contained x (y ∷ ys) (inl e) = (0, omega arith, e)
contained x (y ∷ ys) (inr h) = let at = contained x ys h in (suc at.0, omega (arith, at.1), at.2)

rising_more : (xs : List ℕ) (y : ℕ) → IsStrictlyIncreasing xs → All (λ x. x < y) xs → IsStrictlyIncreasing (xs ++ y ∷ [])
rising_more xs y rise below = λ k h.
    let size = length-append xs (y ∷ []) in
    ⊎_elim
    (λ (inside : k + 1 < length xs). let low : k < length xs = omega (arith, inside) in rw (get_or-append xs (y ∷ []) 0 k low, get_or-append xs (y ∷ []) 0 (k + 1) inside) (rise k inside))
    (λ (last : length xs ≤ k + 1).
    let low : k < length xs = omega (arith, h, size) in
    let same : k + 1 ≡ length xs = omega (arith, h, size, last) in
    let at : get_or (xs ++ y ∷ []) (k + 1) 0 ≡ y = ap (λ (n : ℕ). get_or (xs ++ y ∷ []) n 0) same ∙ get_or-append_seam xs y [] 0 in
    rw (get_or-append xs (y ∷ []) 0 k low, at) (below k 0 low))
    (cases_lt (k + 1) (length xs))

-- ---- the entries of the segment, one after another

less : (a b : ℕ) → nat_cmp a b ≡ Less → a < b
less a b h =
    ⊎_elim
    (λ (low : a < b). low)
    (λ (not_low : b ≤ a).
    ⊎_elim
    (λ (same : a ≡ b). absurd (let no : Equal ≡ Less = nat_cmp_is a b Equal same ∙ h in cc))
    (λ (other : a ≡ b → ⊥). absurd (let no : Greater ≡ Less = nat_cmp_is a b Greater (omega (arith, not_low, other)) ∙ h in cc))
    (cases_eq a b))
    (cases_lt a b)

below_heads : (a : ℕ) (es : List (ℕ × ℕ)) → AllByRecursion (λ (y : ℕ). nat_cmp a y ≡ Less) (map (λ (e : ℕ × ℕ). e.0) es) → AllByRecursion (λ (e : ℕ × ℕ). a < e.0) es
below_heads a [] h = tt
below_heads a (e ∷ es) h = (less a e.0 h.0, below_heads a es h.1)

pub gathered_none : (kept : Kept) (entries : List (ℕ × ℕ)) → IsStrictlySortedBy nat_cmp (map (λ (e : ℕ × ℕ). e.0) entries) → All (λ (e : ℕ × ℕ). entry_at kept.reached e.0 ≡ Some e.1) entries
    → ((label place : ℕ) → entry_at kept.reached label ≡ Some place → Contains entries (label, place)) → Gathered kept entries []
gathered_none kept entries keys stand has = record {
  keys = keys;
  stand = stand;
  rising = λ k h. absurd (omega arith);
  below = λ k d h. absurd (omega arith);
  are = λ k d h. absurd (omega arith);
  passed = λ label place page at stands. inl (has label place at);
}

-- the page of the first entry that is left
pub record IsFirst (kept : Kept) (e : ℕ × ℕ) (page : Touched) : Type 0 where
  pub stands : page_at kept.pages e.0 ≡ Some page
  pub labelled : page.label ≡ e.0

pub first_page : (kept : Kept) (e : ℕ × ℕ) (left : List (ℕ × ℕ)) (pages : List Touched) (d : Touched) → IsSegment kept → Gathered kept (e ∷ left) pages → (e.1 < length kept.pages) × IsFirst kept e (get_or kept.pages e.1 d)
first_page kept e left pages d segment on =
    let there = placed kept.pages e.0 e.1 d (segment.stands e.0 e.1 (on.stand 0 e (omega arith))) in
    (there.within, record { stands = there.page; labelled = there.labelled })

passed_first : (kept : Kept) (e : ℕ × ℕ) (left : List (ℕ × ℕ)) (pages more : List Touched) (page : Touched) → Gathered kept (e ∷ left) pages → IsFirst kept e page → (Contains more page ⊎ IsQuiet page) → ((other : Touched) → Contains pages other → Contains more other)
    → (label place : ℕ) (other : Touched) → entry_at kept.reached label ≡ Some place → page_at kept.pages label ≡ Some other → Contains left (label, place) ⊎ (Contains more other ⊎ IsQuiet other)
passed_first kept e left pages more page on first done keeps label place other at stands =
    ⊎_elim
    (λ (waits : Contains (e ∷ left) (label, place)).
    ⊎_elim
    (λ (here : e ≡ (label, place)).
    let same : page ≡ other = some_page page other (sym first.stands ∙ ap (λ (x : ℕ × ℕ). page_at kept.pages x.0) here ∙ stands) in
    inr (subst (λ (p : Touched). Contains more p ⊎ IsQuiet p) same done))
    (λ (later : Contains left (label, place)). inl later)
    (split e (label, place) left waits))
    (λ (was : Contains pages other ⊎ IsQuiet other). inr (⊎_elim (λ (there : Contains pages other). inl (keeps other there)) (λ (quiet : IsQuiet other). inr quiet) was))
    (on.passed label place other at stands)

pub gathered_past : (kept : Kept) (e : ℕ × ℕ) (left : List (ℕ × ℕ)) (pages : List Touched) (page : Touched) → Gathered kept (e ∷ left) pages → IsFirst kept e page → IsQuiet page → Gathered kept left pages
gathered_past kept e left pages page on first quiet = record {
  keys = sorted_tail nat_cmp e.0 (map (λ (x : ℕ × ℕ). x.0) left) on.keys;
  stand = λ k d h. on.stand (suc k) d (omega (arith, h));
  rising = on.rising;
  below = λ k d h. (on.below k d h).1;
  are = on.are;
  passed = passed_first kept e left pages pages page on first (inr quiet) (λ other h. h);
}

pub gathered_more : (kept : Kept) (e : ℕ × ℕ) (left : List (ℕ × ℕ)) (pages : List Touched) (page : Touched) → Gathered kept (e ∷ left) pages → IsFirst kept e page → HasAccess page → Gathered kept left (pages ++ page ∷ [])
gathered_more kept e left pages page on first access =
    let Label : Touched → ℕ = λ p. p.label in
    let Below : Touched → Type 0 = λ p. AllByRecursion (λ (x : ℕ × ℕ). p.label < x.0) left in
    record {
      keys = sorted_tail nat_cmp e.0 (map (λ (x : ℕ × ℕ). x.0) left) on.keys;
      stand = λ k d h. on.stand (suc k) d (omega (arith, h));
      rising = subst IsStrictlyIncreasing (sym (map-append Label pages (page ∷ [])))
          (rising_more (map Label pages) page.label on.rising (All-map (λ (x : ℕ). x < page.label) Label pages (λ k d h. subst (λ (n : ℕ). (get_or pages k d).label < n) (sym first.labelled) (on.below k d h).0)));
      below = All-append Below pages (page ∷ []) (λ k d h. (on.below k d h).1)
          (All-cons Below page [] (subst (λ (n : ℕ). AllByRecursion (λ (x : ℕ × ℕ). n < x.0) left) (sym first.labelled) (below_heads e.0 left (sorted_head nat_cmp e.0 (map (λ (x : ℕ × ℕ). x.0) left) on.keys))) (All-nil Below));
      are = All-append (IsOf kept) pages (page ∷ []) on.are
          (All-cons (IsOf kept) page [] (record { accessed = access; stands = ap (page_at kept.pages) first.labelled ∙ first.stands }) (All-nil (IsOf kept)));
      passed = passed_first kept e left pages (pages ++ page ∷ []) page on first (inl (Contains-append_right pages (page ∷ []) page (0, omega arith, refl))) (λ other h. Contains-append_left pages (page ∷ []) other h);
    }

-- ---- all of them

in_pages : (pages : List Touched) (label : ℕ) (page : Touched) → page_at pages label ≡ Some page → Contains pages page
unfolding page_at
in_pages [] label page h = absurd (cc)
in_pages (p ∷ pages) label page h = by_test (nat_eq p.label label)
    (λ e. let same : p ≡ page = some_page p page (rw e at h) in (0, omega arith, same))
    (λ e. let at = in_pages pages label page (rw e at h) in (suc at.0, omega (arith, at.1), at.2))

placed_label : (pages : List Touched) (label : ℕ) (page : Touched) → page_at pages label ≡ Some page → page.label ≡ label
unfolding page_at
placed_label [] label page h = absurd (cc)
placed_label (p ∷ pages) label page h = by_test (nat_eq p.label label)
    (λ e. let same : p ≡ page = some_page p page (rw e at h) in ap (λ (q : Touched). q.label) (sym same) ∙ eqb-true p.label label e)
    (λ e. placed_label pages label page (rw e at h))

machine_page : (label : ℕ) → IsMachineLabel label → IsPage label
machine_page label (inl e) = rw e (omega arith)
machine_page label (inr (inl e)) = rw e (omega arith)
machine_page label (inr (inr (inl h))) = let space : page_space label ≡ 2 = omega (arith, h.0, h.1) in rw space (omega arith)
machine_page label (inr (inr (inr e))) = rw e (omega arith)

machine_block : (label block : ℕ) → IsMachineLabel label → block < 16 → is_block (page_space label) (block_pointer label block) ≡ true
machine_block label block machine low = block_inside label block (machine_page label machine) low

-- a page shows its blocks
shown : (kept : Kept) (side : Touched → List ℕ) (page : Touched) (block : ℕ) → IsMachineLabel page.label → block < 16 → page_at kept.pages page.label ≡ Some page
    → block_word (side page) block ≡ blocks_by side kept (page_space page.label) (block_pointer page.label block)
unfolding blocks_by
shown kept side page block machine low at =
    let label : label_of (page_space page.label) (block_pointer page.label block) ≡ page.label = omega arith in
    let place : block_in (block_pointer page.label block) ≡ block = omega (arith, low) in
    rw (machine_block page.label block machine low, label, place, at) refl

shown_time : (kept : Kept) (page : Touched) (block : ℕ) → IsMachineLabel page.label → block < 16 → page_at kept.pages page.label ≡ Some page
    → slice_index page.times block ≡ times_of kept (page_space page.label) (block_pointer page.label block)
unfolding times_of
shown_time kept page block machine low at =
    let label : label_of (page_space page.label) (block_pointer page.label block) ≡ page.label = omega arith in
    let place : block_in (block_pointer page.label block) ≡ block = omega (arith, low) in
    rw (machine_block page.label block machine low, label, place, at) refl

-- a block of a page that has no access is as it was
abbrev pub IsAsItWas : Kept → ℕ → ℕ → Type 0
IsAsItWas kept s p = (now_of kept s p ≡ began_of kept s p) × (times_of kept s p ≡ 0)

off_page : (kept : Kept) (s p : ℕ) → (is_block s p ≡ true → page_at kept.pages (label_of s p) ≡ None) → IsAsItWas kept s p
unfolding blocks_by times_of
off_page kept s p none = by_test (is_block s p) (λ b. (rw (b, none b) refl, rw (b, none b) refl)) (λ b. (rw b refl, rw b refl))

on_page : (kept : Kept) (s p : ℕ) (page : Touched) → is_block s p ≡ true → page_at kept.pages (label_of s p) ≡ Some page → block_word page.new (block_in p) ≡ block_word page.old (block_in p) → slice_index page.times (block_in p) ≡ 0 → IsAsItWas kept s p
unfolding blocks_by times_of
on_page kept s p page b at same time = (rw (b, at) same, rw (b, at) time)

zero_of : (page : Touched) → begun_page page ≡ page → (block : ℕ) → slice_index page.times block ≡ 0
zero_of page rest block = ap (λ (p : Touched). slice_index p.times block) (sym rest) ∙ go 16 block
  where
    go : (n k : ℕ) → slice_index (Rattle.std.proofs.Common.replicate n 0) k ≡ 0
    go zero k = refl
    go (suc n) zero = refl
    go (suc n) (suc k) = go n k

other_by : (kept : Kept) (pages : List Touched) (s p : ℕ) → AreKept kept.pages → IsSegment kept → Gathered kept [] pages → is_block s p ≡ true → (o : Option Touched) → page_at kept.pages (label_of s p) ≡ o → (r : Option ℕ) → entry_at kept.reached (label_of s p) ≡ r
    → InPages pages s p ⊎ IsAsItWas kept s p
other_by kept pages s p are segment on b None at r way = inr (off_page kept s p (λ h. at))
other_by kept pages s p are segment on b (Some page) at None way =
    let rest : begun_page page ≡ page = subst IsAtRest at (segment.rests (label_of s p) way) in
    inr (on_page kept s p page b at (ap (λ (q : Touched). block_word q.old (block_in p)) rest) (zero_of page rest (block_in p)))
other_by kept pages s p are segment on b (Some page) at (Some place) way =
    let label : page.label ≡ label_of s p = (placed_label kept.pages (label_of s p) page at) in
    let where_is = place_of_block s p page.label b label in
    ⊎_elim
    (λ (left : Contains [] (label_of s p, place)). absurd (none_in (label_of s p, place) left))
    (⊎_elim
    (λ (there : Contains pages page). inl (record { page = page; stands = there; block = block_in p; below = where_is.2; is_space = sym where_is.0; is_pointer = sym where_is.1 }))
    (λ (quiet : IsQuiet page). inr (on_page kept s p page b at ((All-contains IsIdle kept.pages page are.idle (in_pages kept.pages (label_of s p) page at)).stays (block_in p) where_is.2 (quiet (block_in p) where_is.2)) (quiet (block_in p) where_is.2))))
    (on.passed (label_of s p) place page way at)

pub gathered_all : (kept : Kept) (pages : List Touched) → AreKept kept.pages → IsSegment kept → Gathered kept [] pages → AreTouched (began_of kept) (now_of kept) (times_of kept) pages
gathered_all kept pages are segment on =
    let at : All (λ (p : Touched). page_at kept.pages p.label ≡ Some p) pages = λ k d h. (on.are k d h).stands in
    let machine : All (λ (p : Touched). IsMachineLabel p.label) pages = λ k d h. let p = get_or pages k d in All-contains (λ (q : Touched). IsMachineLabel q.label) kept.pages p are.machine (in_pages kept.pages p.label p (at k d h)) in
    record {
      rising = on.rising;
      machine = machine;
      whole = λ k d h. let p = get_or pages k d in All-contains IsWhole kept.pages p are.whole (in_pages kept.pages p.label p (at k d h));
      accessed = λ k d h. (on.are k d h).accessed;
      shows = record {
        old = λ page block stands low. shown kept (λ p. p.old) page block (of page stands machine) low (of_at page stands at);
        new = λ page block stands low. shown kept (λ p. p.new) page block (of page stands machine) low (of_at page stands at);
        time = λ page block stands low. shown_time kept page block (of page stands machine) low (of_at page stands at);
      };
      others = λ s p. by_test (is_block s p) (λ b. other_by kept pages s p are segment on b (page_at kept.pages (label_of s p)) refl (entry_at kept.reached (label_of s p)) refl) (λ b. inr (off_page kept s p (λ h. absurd (both_ways (is_block s p) b h))));
    }
  where
    of : (page : Touched) → Member page pages → All (λ (p : Touched). IsMachineLabel p.label) pages → IsMachineLabel page.label
    of page stands machine = All-contains (λ (p : Touched). IsMachineLabel p.label) pages page machine (contained page pages stands)

    of_at : (page : Touched) → Member page pages → All (λ (p : Touched). page_at kept.pages p.label ≡ Some p) pages → page_at kept.pages page.label ≡ Some page
    of_at page stands at = All-contains (λ (p : Touched). page_at kept.pages p.label ≡ Some p) pages page at (contained page pages stands)
