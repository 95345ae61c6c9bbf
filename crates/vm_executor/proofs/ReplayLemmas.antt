-- Accesses that replay from blocks at time 0 are linked, and pages that show the two ends fit them.
use Rattle.std.proofs.Common.{◌≡◌, ℕ, ◌<◌, ◌≤◌, ◌⊎◌, inl, inr, ⊎_elim, Bool, true, false, cond, nat_eq, List, [], ◌∷◌, Option, Some, None, refl, sym, ap, ◌∙◌, subst, arith}
use Rattle.std.proofs.lemmas.Bool.{and_from, eq-eqb}
use Rattle.air_core.specs.Orders.{Member}
use Rattle.std.specs.List.{AllByRecursion, range_with_len}
use Rattle.vm_isa.specs.Blocks.{Blocks}
use Rattle.air_core.specs.ListLemmas.{all_weaker}
use Rattle.air_core.proofs.ElementLemmas.{all_map, all_from_members, all_flat_map}
use Rattle.vm_trace.specs.declared.page.Touched.{Touched}
use Rattle.offline_memory.specs.Memory.{Access, Block, is_cell_at, after_access, after_all, Replays}
use Rattle.offline_memory.specs.Pages.{DistinctLabels, block_of, page_blocks}
use Rattle.vm_trace.specs.PageBlocks.{InPages}
use Rattle.offline_memory.proofs.MemoryLemmas.{Replays-ends}
use Rattle.offline_memory.proofs.PageLemmas.{below_16}
use Rattle.offline_memory.specs.Linked.{Lasts, unmet, Follows, Linked, first_word, BlockFits, PagesFit}
use Rattle.vm_executor.specs.Pages.{Times, with_times, never, Shows}
use Rattle.offline_memory.proofs.MemoryBalance.{same_place}
use Rattle.offline_memory.proofs.LinkedLemmas.{last_stands, none_stays}

-- a memory that began with these blocks has what the accesses so far left
record Agrees (start : Blocks) (q m : Lasts) : Type 0 where
  none : (s p : ℕ) → q s p ≡ None → m s p ≡ Some (start s p, 0)
  some : (s p : ℕ) (c : List ℕ × ℕ) → q s p ≡ Some c → m s p ≡ Some c

none_by : (start : Blocks) (a : Access) (q m : Lasts) (s p : ℕ) (b : Bool) → (q s p ≡ None → m s p ≡ Some (start s p, 0)) → cond b (Some (a.new, a.time)) (q s p) ≡ None
    → cond b (Some (a.new, a.time)) (m s p) ≡ Some (start s p, 0)
none_by start a q m s p true k h = absurd (cc)
none_by start a q m s p false k h = k h

some_by : (a : Access) (q m : Lasts) (s p : ℕ) (c : List ℕ × ℕ) (b : Bool) → (q s p ≡ Some c → m s p ≡ Some c) → cond b (Some (a.new, a.time)) (q s p) ≡ Some c → cond b (Some (a.new, a.time)) (m s p) ≡ Some c
some_by a q m s p c true k h = h
some_by a q m s p c false k h = k h

agrees_after : (start : Blocks) (a : Access) (q m : Lasts) → Agrees start q m → Agrees start (after_access a q) (after_access a m)
agrees_after start a q m agrees = record {
  none = λ s p h. none_by start a q m s p (is_cell_at a.space a.pointer s p) (agrees.none s p) h;
  some = λ s p c h. some_by a q m s p c (is_cell_at a.space a.pointer s p) (agrees.some s p c) h;
}

agrees_start : (start : Blocks) → Agrees start unmet (with_times start never)
agrees_start start = record { none = λ s p h. refl; some = λ s p c h. absurd (cc) }

some_word : (u v : List ℕ) (s t : ℕ) → ◌≡◌ {A = Option (List ℕ × ℕ)} (Some (u, s)) (Some (v, t)) → (u ≡ v) × (s ≡ t)
some_word u v s t h =
    let both : ◌≡◌ {A = List ℕ × ℕ} (u, s) (v, t) = cc in
    (ap (λ (x : List ℕ × ℕ). x.0) both, ap (λ (x : List ℕ × ℕ). x.1) both)

-- ---- linked

follows_by : (start : Blocks) (a : Access) (q m : Lasts) (x : Option (List ℕ × ℕ)) → q a.space a.pointer ≡ x → Agrees start q m → m a.space a.pointer ≡ Some (a.old, a.before) → Follows x a
follows_by start a q m None e agrees met = sym (some_word (start a.space a.pointer) a.old 0 a.before (sym (agrees.none a.space a.pointer e) ∙ met)).1
follows_by start a q m (Some last) e agrees met =
    let same = some_word last.0 a.old last.1 a.before (sym (agrees.some a.space a.pointer last e) ∙ met) in
    (sym same.0, sym same.1)

linked_from : (start : Blocks) (accesses : List Access) (q m final : Lasts) → Agrees start q m → Replays m accesses final → Linked q accesses
unfolding Linked
linked_from start [] q m final agrees h = tt
linked_from start (a ∷ more) q m final agrees h =
    (follows_by start a q m (q a.space a.pointer) refl agrees h.0, linked_from start more (after_access a q) (after_access a m) final (agrees_after start a q m agrees) h.1)

pub replays_linked : (start : Blocks) (accesses : List Access) (final : Lasts) → Replays (with_times start never) accesses final → Linked unmet accesses
replays_linked start accesses final h = linked_from start accesses unmet (with_times start never) final (agrees_start start) h

-- ---- the first word

first_by : (start : Blocks) (a : Access) (more : List Access) (q m : Lasts) (s p : ℕ) (word : List ℕ) (b : Bool) → is_cell_at a.space a.pointer s p ≡ b → Agrees start q m → q s p ≡ None
    → m a.space a.pointer ≡ Some (a.old, a.before) → (after_access a q s p ≡ None → first_word more s p ≡ Some word → start s p ≡ word)
    → cond b (Some a.old) (first_word more s p) ≡ Some word → start s p ≡ word
first_by start a more q m s p word true e agrees none met later first =
    let same = same_place a.space a.pointer s p e in
    let there : m s p ≡ Some (a.old, a.before) = ap (λ (x : ℕ). m x p) (sym same.0) ∙ ap (λ (y : ℕ). m a.space y) (sym same.1) ∙ met in
    let old : a.old ≡ word = cc in
    (some_word (start s p) a.old 0 a.before (sym (agrees.none s p none) ∙ there)).0 ∙ old
first_by start a more q m s p word false e agrees none met later first = later (rw e none) first

first_from : (start : Blocks) (accesses : List Access) (q m final : Lasts) (s p : ℕ) (word : List ℕ) → Agrees start q m → Replays m accesses final → q s p ≡ None → first_word accesses s p ≡ Some word → start s p ≡ word
first_from start [] q m final s p word agrees h none first = absurd (cc)
first_from start (a ∷ more) q m final s p word agrees h none first =
    first_by start a more q m s p word (is_cell_at a.space a.pointer s p) refl agrees none h.0 (first_from start more (after_access a q) (after_access a m) final s p word (agrees_after start a q m agrees) h.1) first

-- ---- the last word

-- what an access left, a later one changes at most
keeps_some : (accesses : List Access) (q : Lasts) (s p : ℕ) (c : List ℕ × ℕ) → q s p ≡ Some c → (d : List ℕ × ℕ) × (after_all accesses q s p ≡ Some d)
keeps_some [] q s p c h = (c, h)
keeps_some (a ∷ more) q s p c h = by_place (is_cell_at a.space a.pointer s p) refl (λ d k. keeps_some more (after_access a q) s p d k)
  where
    by_place : (b : Bool) → is_cell_at a.space a.pointer s p ≡ b → ((d : List ℕ × ℕ) → after_access a q s p ≡ Some d → (f : List ℕ × ℕ) × (after_all more (after_access a q) s p ≡ Some f))
        → (f : List ℕ × ℕ) × (after_all more (after_access a q) s p ≡ Some f)
    by_place true e rest = rest (a.new, a.time) (rw e refl)
    by_place false e rest = rest c (rw e h)

last_of_first : (accesses : List Access) (q : Lasts) (s p : ℕ) (word : List ℕ) → first_word accesses s p ≡ Some word → (d : List ℕ × ℕ) × (after_all accesses q s p ≡ Some d)
last_of_first [] q s p word h = absurd (cc)
last_of_first (a ∷ more) q s p word h = by_place (is_cell_at a.space a.pointer s p) refl h (last_of_first more (after_access a q) s p word)
  where
    by_place : (b : Bool) → is_cell_at a.space a.pointer s p ≡ b → cond b (Some a.old) (first_word more s p) ≡ Some word
        → (first_word more s p ≡ Some word → (f : List ℕ × ℕ) × (after_all more (after_access a q) s p ≡ Some f)) → (f : List ℕ × ℕ) × (after_all more (after_access a q) s p ≡ Some f)
    by_place true e first rest = keeps_some more (after_access a q) s p (a.new, a.time) (rw e refl)
    by_place false e first rest = rest first

-- ---- times

late_by : (a : Access) (q : Lasts) (s p : ℕ) (b : Bool) → 1 ≤ a.time → ((c : List ℕ × ℕ) → q s p ≡ Some c → 1 ≤ c.1) → (c : List ℕ × ℕ) → cond b (Some (a.new, a.time)) (q s p) ≡ Some c → 1 ≤ c.1
late_by a q s p true late was c h = subst (λ (n : ℕ). 1 ≤ n) (some_word a.new c.0 a.time c.1 h).1 late
late_by a q s p false late was c h = was c h

-- what accesses leave at a place of late ones is late
late_stays : (accesses : List Access) (q : Lasts) (s p : ℕ) → AllByRecursion (λ a. 1 ≤ a.time) accesses → ((c : List ℕ × ℕ) → q s p ≡ Some c → 1 ≤ c.1) → (c : List ℕ × ℕ) → after_all accesses q s p ≡ Some c → 1 ≤ c.1
late_stays [] q s p late was = was
late_stays (a ∷ more) q s p late was = late_stays more (after_access a q) s p late.1 (late_by a q s p (is_cell_at a.space a.pointer s p) late.0 was)

there : (a : Access) → is_cell_at a.space a.pointer a.space a.pointer ≡ true
there a = and_from (nat_eq a.space a.space) (nat_eq a.pointer a.pointer) (eq-eqb a.space a.space refl) (eq-eqb a.pointer a.pointer refl)

late_of : (accesses : List Access) (q : Lasts) (a : Access) → AllByRecursion (λ a. 1 ≤ a.time) accesses → Member a accesses → (c : List ℕ × ℕ) → after_all accesses q a.space a.pointer ≡ Some c → 1 ≤ c.1
late_of [] q a late h c e = absurd h
late_of (b ∷ more) q a late (inl same) c e =
    late_stays more (after_access b q) a.space a.pointer late.1
    (λ d f. subst (λ (n : ℕ). 1 ≤ n) (some_word b.new d.0 b.time d.1 (sym (ap (λ (t : Bool). cond t (Some (b.new, b.time)) (q a.space a.pointer)) (ap (λ (x : Access). is_cell_at x.space x.pointer a.space a.pointer) same ∙ there a)) ∙ f)).1 late.0)
    c e
late_of (b ∷ more) q a late (inr h) c e = late_of more (after_access b q) a late.1 h c e

-- the block of an access has a time at the end
pub accessed_late : (start now : Blocks) (times : Times) (accesses : List Access) (a : Access) → Replays (with_times start never) accesses (with_times now times) → AllByRecursion (λ a. 1 ≤ a.time) accesses → Member a accesses
    → 1 ≤ times a.space a.pointer
accessed_late start now times accesses a replays late stands =
    late_of accesses (with_times start never) a late stands (now a.space a.pointer, times a.space a.pointer) (Replays-ends (with_times start never) (with_times now times) accesses replays a.space a.pointer)

-- an access at a place
pub record AccessAt (accesses : List Access) (s p : ℕ) : Type 0 where
  pub access : Access
  pub stands : Member access accesses
  pub space_is : access.space ≡ s
  pub pointer_is : access.pointer ≡ p

found_by : (accesses : List Access) (q : Lasts) (s p : ℕ) → AccessAt accesses s p ⊎ (after_all accesses q s p ≡ q s p)
found_by [] q s p = inr refl
found_by (a ∷ more) q s p = by_place (is_cell_at a.space a.pointer s p) refl (found_by more (after_access a q) s p)
  where
    by_place : (b : Bool) → is_cell_at a.space a.pointer s p ≡ b → AccessAt more s p ⊎ (after_all more (after_access a q) s p ≡ after_access a q s p) → AccessAt (a ∷ more) s p ⊎ (after_all more (after_access a q) s p ≡ q s p)
    by_place true e rest = let same = same_place a.space a.pointer s p e in inl (record { access = a; stands = inl refl; space_is = same.0; pointer_is = same.1 })
    by_place false e (inl at) = inl (record { access = at.access; stands = inr at.stands; space_is = at.space_is; pointer_is = at.pointer_is })
    by_place false e (inr stays) = inr (stays ∙ ap (λ (t : Bool). cond t (Some (a.new, a.time)) (q s p)) e)

-- a block that has a time at the end has an access
pub late_accessed : (start now : Blocks) (times : Times) (accesses : List Access) (s p : ℕ) → Replays (with_times start never) accesses (with_times now times) → 1 ≤ times s p → AccessAt accesses s p
late_accessed start now times accesses s p replays late =
    ⊎_elim
    (λ (at : AccessAt accesses s p). at)
    (λ (stays : after_all accesses (with_times start never) s p ≡ with_times start never s p).
    let zero_time : 0 ≡ times s p = (some_word (start s p) (now s p) 0 (times s p) (sym stays ∙ Replays-ends (with_times start never) (with_times now times) accesses replays s p)).1 in
    absurd (omega (arith, late, zero_time)))
    (found_by accesses (with_times start never) s p)

-- ---- pages

fits_by : (start now : Blocks) (times : Times) (accesses : List Access) (b : Block) (x : Option (List ℕ)) → first_word accesses b.space b.pointer ≡ x
    → Replays (with_times start never) accesses (with_times now times) → b.first ≡ start b.space b.pointer → b.last ≡ now b.space b.pointer → b.final ≡ times b.space b.pointer
    → BlockFits x (after_all accesses unmet b.space b.pointer) b
fits_by start now times accesses b None e replays first last final =
    let same = some_word (start b.space b.pointer) (now b.space b.pointer) 0 (times b.space b.pointer)
    (sym (none_stays accesses (with_times start never) b.space b.pointer e) ∙ Replays-ends (with_times start never) (with_times now times) accesses replays b.space b.pointer) in
    (last ∙ sym same.0 ∙ sym first, final ∙ sym same.1)
fits_by start now times accesses b (Some word) e replays first last final =
    let found = last_of_first accesses unmet b.space b.pointer word e in
    let stands = last_stands accesses unmet (with_times start never) (λ s p c h. absurd (cc)) b.space b.pointer found.0 found.1 in
    let same = some_word found.0.0 (now b.space b.pointer) found.0.1 (times b.space b.pointer) (sym stands ∙ Replays-ends (with_times start never) (with_times now times) accesses replays b.space b.pointer) in
    let make : List ℕ → ℕ → Option (List ℕ × ℕ) = λ w t. Some (w, t) in (
      first ∙ first_from start accesses unmet (with_times start never) (with_times now times) b.space b.pointer word (agrees_start start) replays refl e,
      found.1 ∙ ap (λ w. make w found.0.1) (same.0 ∙ sym last) ∙ ap (λ t. make b.last t) (same.1 ∙ sym final),
    )

-- Pages that show where the blocks began and where they are fit the accesses between.
pub replays_fit : (start now : Blocks) (times : Times) (accesses : List Access) (pages : List Touched) → Replays (with_times start never) accesses (with_times now times)
    → Shows pages start now times → DistinctLabels pages → AllByRecursion (λ a. InPages pages a.space a.pointer) accesses → PagesFit pages accesses
replays_fit start now times accesses pages replays shows distinct inside = record {
  distinct = distinct;
  inside = inside;
  blocks =
      let P : Block → Type 0 = λ b. BlockFits (first_word accesses b.space b.pointer) (after_all accesses unmet b.space b.pointer) b in
      all_flat_map P page_blocks pages
      (all_from_members (λ page. AllByRecursion P (page_blocks page)) pages (λ page stands.
      all_map P (block_of page) (range_with_len 0 16)
      (all_weaker (λ i. i < 16) (λ i. P (block_of page i)) (λ i low.
      let b = block_of page i in
      fits_by start now times accesses b (first_word accesses b.space b.pointer) refl replays (shows.old page i stands low) (shows.new page i stands low) (shows.time page i stands low))
      (range_with_len 0 16) below_16)));
}
