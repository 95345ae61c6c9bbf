-- Linked accesses meet the pages that fit them.
use Rattle.std.proofs.Common.{◌≡◌, ℕ, ◌+◌, Bool, true, false, cond, List, [], ◌∷◌, map, Option, Some, None, refl, sym, ap, ◌∙◌, subst}
use Rattle.std.specs.List.{AllByRecursion}
use Rattle.std.proofs.lemmas.Bool.{eqb-true}
use Rattle.air_core.specs.Balance.{BalancedOn, IsEven}
use Rattle.air_core.specs.Counts.{weight}
use Rattle.air_core.specs.Totals.{is_bus}
use Rattle.air_core.specs.Orders.{Distinct, Member}
use Rattle.air_core.proofs.ElementLemmas.{all_at, all_map, all_from_members, member_image}
use Rattle.vm_trace.specs.declared.page.Touched.{Touched}
use Rattle.offline_memory.specs.MemoryEvents.{memory_events}
use Rattle.offline_memory.specs.Memory.{Cell, Access, Block, met_cell, left_cell, first_cell, last_cell, is_cell_at, cell_at, after_access, after_all}
use Rattle.vm_trace.specs.PageBlocks.{InPages}
use Rattle.offline_memory.specs.Pages.{DistinctLabels, block_of, blocks_of}
use Rattle.offline_memory.proofs.Members.{member_from_contains}
use Rattle.offline_memory.proofs.MemoryLemmas.{cell_at_member}
use Rattle.offline_memory.proofs.EventLemmas.{cell_is, memory_sent, memory_received}
use Rattle.offline_memory.proofs.PageLemmas.{same_places, distinct_places, block_member}
use Rattle.offline_memory.specs.Linked.{Lasts, unmet, Follows, Linked, first_word, BlockFits, PagesFit}
use Rattle.offline_memory.proofs.MemoryBalance.{AMemory, Meets, same_place, is_cell_at_itself, meets_balance}

-- a memory has all that the accesses so far left
abbrev Covers : Lasts → AMemory → Type 0
Covers q m = (s p : ℕ) (c : List ℕ × ℕ) → q s p ≡ Some c → m s p ≡ Some c

-- and, at time 0, the old word of each access that will be the first of its place
abbrev Offers : List Access → Lasts → AMemory → Type 0
Offers accesses q m = (s p : ℕ) (word : List ℕ) → q s p ≡ None → first_word accesses s p ≡ Some word → m s p ≡ Some (word, 0)

covers_by : (a : Access) (q m : Lasts) (s p : ℕ) (c : List ℕ × ℕ) (b : Bool) → (q s p ≡ Some c → m s p ≡ Some c) → cond b (Some (a.new, a.time)) (q s p) ≡ Some c → cond b (Some (a.new, a.time)) (m s p) ≡ Some c
covers_by a q m s p c true k h = h
covers_by a q m s p c false k h = k h

covers_after : (a : Access) (q m : Lasts) → Covers q m → Covers (after_access a q) (after_access a m)
covers_after a q m k s p c h = covers_by a q m s p c (is_cell_at a.space a.pointer s p) (k s p c) h

offers_by : (a : Access) (more : List Access) (q m : Lasts) (s p : ℕ) (word : List ℕ) (b : Bool)
    → (q s p ≡ None → cond b (Some a.old) (first_word more s p) ≡ Some word → m s p ≡ Some (word, 0))
    → cond b (Some (a.new, a.time)) (q s p) ≡ None → first_word more s p ≡ Some word → cond b (Some (a.new, a.time)) (m s p) ≡ Some (word, 0)
offers_by a more q m s p word true k h f = absurd (cc)
offers_by a more q m s p word false k h f = k h f

offers_after : (a : Access) (more : List Access) (q m : Lasts) → Offers (a ∷ more) q m → Offers more (after_access a q) (after_access a m)
offers_after a more q m k s p word h f = offers_by a more q m s p word (is_cell_at a.space a.pointer s p) (k s p word) h f

meets_by : (a : Access) (q m : Lasts) (x : Option (List ℕ × ℕ)) → q a.space a.pointer ≡ x → Follows x a
    → ((c : List ℕ × ℕ) → q a.space a.pointer ≡ Some c → m a.space a.pointer ≡ Some c)
    → (q a.space a.pointer ≡ None → m a.space a.pointer ≡ Some (a.old, 0)) → m a.space a.pointer ≡ Some (a.old, a.before)
meets_by a q m None e follows covers offers =
    let make : ℕ → Option (List ℕ × ℕ) = λ t. Some (a.old, t) in
    offers e ∙ ap make (sym follows)
meets_by a q m (Some last) e follows covers offers =
    let make : List ℕ → ℕ → Option (List ℕ × ℕ) = λ w t. Some (w, t) in
    covers last e ∙ ap (λ w. make w last.1) (sym follows.0) ∙ ap (λ t. make a.old t) (sym follows.1)

pub linked_meets : (accesses : List Access) (q m : Lasts) → Covers q m → Offers accesses q m → Linked q accesses → Meets m accesses
unfolding Linked
linked_meets [] q m covers offers linked = tt
linked_meets (a ∷ more) q m covers offers linked =
    let own : first_word (a ∷ more) a.space a.pointer ≡ Some a.old = rw (is_cell_at_itself a.space a.pointer) refl in (
      meets_by a q m (q a.space a.pointer) refl linked.0 (covers a.space a.pointer) (λ none. offers a.space a.pointer a.old none own),
      linked_meets more (after_access a q) (after_access a m) (covers_after a q m covers) (offers_after a more q m offers) linked.1,
    )

-- what the last access of a place left is what stands there
pub last_stands : (accesses : List Access) (q m : Lasts) → Covers q m → (s p : ℕ) (c : List ℕ × ℕ) → after_all accesses q s p ≡ Some c → after_all accesses m s p ≡ Some c
last_stands [] q m covers s p c h = covers s p c h
last_stands (a ∷ more) q m covers s p c h = last_stands more (after_access a q) (after_access a m) (covers_after a q m covers) s p c h

away_by : (a : Access) (more : List Access) (m : Lasts) (s p : ℕ) (b : Bool) → is_cell_at a.space a.pointer s p ≡ b → cond b (Some a.old) (first_word more s p) ≡ None
    → (first_word more s p ≡ None → after_all more (after_access a m) s p ≡ after_access a m s p) → after_all more (after_access a m) s p ≡ m s p
away_by a more m s p true e none rest = absurd (cc)
away_by a more m s p false e none rest = rest none ∙ rw e refl

-- and a place without accesses keeps what stands there
pub none_stays : (accesses : List Access) (m : Lasts) (s p : ℕ) → first_word accesses s p ≡ None → after_all accesses m s p ≡ m s p
none_stays [] m s p none = refl
none_stays (a ∷ more) m s p none = away_by a more m s p (is_cell_at a.space a.pointer s p) refl none (none_stays more (after_access a m) s p)

-- ---- the pages

-- where an access is, there is what holds of the places of accesses
first_by : (P : ℕ → ℕ → Type 0) (a : Access) (more : List Access) (s p : ℕ) (word : List ℕ) (b : Bool) → is_cell_at a.space a.pointer s p ≡ b → P a.space a.pointer → (first_word more s p ≡ Some word → P s p)
    → cond b (Some a.old) (first_word more s p) ≡ Some word → P s p
first_by P a more s p word true e here later first =
    let same = same_place a.space a.pointer s p e in
    subst (λ (x : ℕ). P x p) same.0 (subst (λ (y : ℕ). P a.space y) same.1 here)
first_by P a more s p word false e here later first = later first

first_is : (P : ℕ → ℕ → Type 0) (accesses : List Access) (s p : ℕ) (word : List ℕ) → AllByRecursion (λ a. P a.space a.pointer) accesses → first_word accesses s p ≡ Some word → P s p
first_is P [] s p word h f = absurd (cc)
first_is P (a ∷ more) s p word h f = first_by P a more s p word (is_cell_at a.space a.pointer s p) refl h.0 (first_is P more s p word h.1) f

-- each block's first word stands there at the start
first_stands : (pages : List Touched) → DistinctLabels pages → (b : Block) → Member b (blocks_of pages) → cell_at (map first_cell (blocks_of pages)) b.space b.pointer ≡ Some (b.first, 0)
first_stands pages labels b h =
    cell_at_member (map first_cell (blocks_of pages)) (first_cell b)
    (subst (λ (t : List (ℕ × ℕ)). Distinct t) (sym (same_places (blocks_of pages))) (distinct_places pages labels))
    (member_image first_cell b (blocks_of pages) h)

offered_by : (accesses : List Access) (b : Block) (word : List ℕ) (last : Option (List ℕ × ℕ)) (x : Option (List ℕ)) → x ≡ Some word → BlockFits x last b → b.first ≡ word
offered_by accesses b word last None e h = absurd (cc)
offered_by accesses b word last (Some w) e h = let same : w ≡ word = cc in h.0 ∙ same

offers : (pages : List Touched) (accesses : List Access) → PagesFit pages accesses → Offers accesses unmet (cell_at (map first_cell (blocks_of pages)))
offers pages accesses fit s p word none first =
    let inside : InPages pages s p = first_is (InPages pages) accesses s p word fit.inside first in
    let b = block_of inside.page inside.block in
    let member : Member b (blocks_of pages) = block_member pages inside.page inside.block (member_from_contains inside.page pages inside.stands) inside.below in
    let fits = all_at (λ b. BlockFits (first_word accesses b.space b.pointer) (after_all accesses unmet b.space b.pointer) b) (blocks_of pages) b member fit.blocks in
    let there : first_word accesses b.space b.pointer ≡ Some word = ap (λ (x : ℕ). first_word accesses x b.pointer) (sym inside.is_space) ∙ ap (λ (y : ℕ). first_word accesses s y) (sym inside.is_pointer) ∙ first in
    let same : b.first ≡ word = offered_by accesses b word (after_all accesses unmet b.space b.pointer) (first_word accesses b.space b.pointer) there fits in
    let make : List ℕ → Option (List ℕ × ℕ) = λ w. Some (w, 0) in
    ap (λ (x : ℕ). cell_at (map first_cell (blocks_of pages)) x p) inside.is_space ∙ ap (λ (y : ℕ). cell_at (map first_cell (blocks_of pages)) b.space y) inside.is_pointer
    ∙ first_stands pages fit.distinct b member ∙ ap make same

covers : (m : AMemory) → Covers unmet m
covers m s p c h = absurd (cc)

finish_by : (accesses : List Access) (m : AMemory) (b : Block) (x : Option (List ℕ)) → first_word accesses b.space b.pointer ≡ x → m b.space b.pointer ≡ Some (b.first, 0)
    → BlockFits x (after_all accesses unmet b.space b.pointer) b → after_all accesses m b.space b.pointer ≡ Some (b.last, b.final)
finish_by accesses m b None e first fits =
    let make : List ℕ → ℕ → Option (List ℕ × ℕ) = λ w t. Some (w, t) in
    none_stays accesses m b.space b.pointer e ∙ first ∙ ap (λ w. make w 0) (sym fits.0) ∙ ap (λ t. make b.last t) (sym fits.1)
finish_by accesses m b (Some word) e first fits = last_stands accesses unmet m (covers m) b.space b.pointer (b.last, b.final) fits.1

finish : (pages : List Touched) (accesses : List Access) → PagesFit pages accesses
    → AllByRecursion (λ f. after_all accesses (cell_at (map first_cell (blocks_of pages))) f.space f.pointer ≡ Some (f.word, f.time)) (map last_cell (blocks_of pages))
finish pages accesses fit =
    let m = cell_at (map first_cell (blocks_of pages)) in
    all_map (λ f. after_all accesses m f.space f.pointer ≡ Some (f.word, f.time)) last_cell (blocks_of pages)
    (all_from_members (λ b. after_all accesses m b.space b.pointer ≡ Some (b.last, b.final)) (blocks_of pages) (λ b h.
    finish_by accesses m b (first_word accesses b.space b.pointer) refl (first_stands pages fit.distinct b h)
    (all_at (λ b. BlockFits (first_word accesses b.space b.pointer) (after_all accesses unmet b.space b.pointer) b) (blocks_of pages) b h fit.blocks)))

-- Linked accesses and pages that fit them balance, by any weight of cells.
pub linked_balance : (pages : List Touched) (accesses : List Access) → Linked unmet accesses → PagesFit pages accesses → (w : Cell → ℕ)
    → weight w (map first_cell (blocks_of pages)) + weight w (map left_cell accesses) ≡ weight w (map last_cell (blocks_of pages)) + weight w (map met_cell accesses)
linked_balance pages accesses linked fit w =
    let m = cell_at (map first_cell (blocks_of pages)) in
    meets_balance w accesses (map first_cell (blocks_of pages)) (map last_cell (blocks_of pages)) (same_places (blocks_of pages)) (distinct_places pages fit.distinct)
    (linked_meets accesses unmet m (covers m) (offers pages accesses fit) linked) (finish pages accesses fit)

even_at : (pages : List Touched) (accesses : List Access) → Linked unmet accesses → PagesFit pages accesses → (tuple : List ℕ) → IsEven 2 tuple (memory_events pages accesses)
even_at pages accesses linked fit tuple =
    memory_sent tuple pages accesses ∙ linked_balance pages accesses linked fit (cell_is tuple) ∙ sym (memory_received tuple pages accesses)

-- So what they say balances.
pub linked_accesses_balance : (pages : List Touched) (accesses : List Access) → Linked unmet accesses → PagesFit pages accesses → BalancedOn (is_bus 2) (memory_events pages accesses)
linked_accesses_balance pages accesses linked fit = record {
  even = λ bus tuple on. subst (λ (b : ℕ). IsEven b tuple (memory_events pages accesses)) (sym (eqb-true bus 2 on)) (even_at pages accesses linked fit tuple);
}
