-- Entries receive rows as often as their counts say.
use Rattle.std.proofs.Common.{◌≡◌, ℕ, zero, suc, ◌+◌, ◌<◌, ◌≤◌, Bool, true, false, cond, nat_eq, List, [], ◌∷◌, slice_index, Option, Some, None, refl, sym, ap, ◌∙◌, arith, ⊎_elim}
use Rattle.std.specs.Prelude.{flat_map}
use Rattle.std.specs.List.{AllByRecursion}
use Rattle.std.proofs.lemmas.Bool.{eqb-true, eq-eqb, ne_eqb, cases_lt}
use Rattle.vm_trace.specs.declared.count.CountEntry.{CountEntry}
use Rattle.air_core.specs.declared.event.Event.{Event}
use Rattle.air_core.specs.declared.event.Side.TheVariants.{Send, Receive}
use Rattle.air_core.specs.Balance.{is_at, total}
use Rattle.air_core.specs.Counts.{weight}
use Rattle.air_core.specs.ListLemmas.{all_append}
use Rattle.air_core.specs.Sheet.{received}
use Rattle.air_core.proofs.BalanceLemmas.{total-cons, total-append, there_of_test, test_of_there}
use Rattle.acceptance.specs.Events.{received_row}
use Rattle.vm_filler.specs.Uses.{entries_from, entries_of}
use Rattle.vm_filler.proofs.FixedRows.{OnePlace}

-- what an entry counts at a place
abbrev count_at : ℕ → CountEntry → ℕ
count_at place e = cond (nat_eq e.place place) e.count 0

-- ---- entries of counts

-- the entries from a place on, by whether its count is 0
abbrev entries_by : Bool → ℕ → ℕ → List ℕ → List CountEntry
entries_by b place n counts = cond b (entries_from (place + 1) counts) (record { place = place; count = n } ∷ entries_from (place + 1) counts)

none_by : (k least n : ℕ) (counts : List ℕ) (b : Bool) → k < least → weight (count_at k) (entries_from (least + 1) counts) ≡ 0 → weight (count_at k) (entries_by b least n counts) ≡ 0
none_by k least n counts true low rest = rest
none_by k least n counts false low rest =
    let other : nat_eq least k ≡ false = ne_eqb least k (λ e. omega (arith, e, low)) in
    let nothing : cond (nat_eq least k) n 0 ≡ 0 = rw other refl in
    omega (arith, nothing, rest)

-- the places of entries from one place on are not below it
places_from : (k least : ℕ) (counts : List ℕ) → k < least → weight (count_at k) (entries_from least counts) ≡ 0
places_from k least [] low = refl
places_from k least (n ∷ counts) low = none_by k least n counts (nat_eq n 0) low (places_from k (least + 1) counts (omega (arith, low)))

here_by : (least n : ℕ) (counts : List ℕ) (b : Bool) → nat_eq n 0 ≡ b → weight (count_at (least + 0)) (entries_by b least n counts) ≡ n
here_by least n counts true e = omega (arith, eqb-true n 0 e, places_from (least + 0) (least + 1) counts (omega arith))
here_by least n counts false e =
    let here : nat_eq least (least + 0) ≡ true = eq-eqb least (least + 0) (omega arith) in
    let mine : cond (nat_eq least (least + 0)) n 0 ≡ n = rw here refl in
    omega (arith, mine, places_from (least + 0) (least + 1) counts (omega arith))

later_by : (least k n : ℕ) (counts : List ℕ) (b : Bool) → weight (count_at (least + suc k)) (entries_from (least + 1) counts) ≡ slice_index counts k
    → weight (count_at (least + suc k)) (entries_by b least n counts) ≡ slice_index counts k
later_by least k n counts true rest = rest
later_by least k n counts false rest =
    let other : nat_eq least (least + suc k) ≡ false = ne_eqb least (least + suc k) (λ e. omega (arith, e)) in
    let nothing : cond (nat_eq least (least + suc k)) n 0 ≡ 0 = rw other refl in
    omega (arith, nothing, rest)

-- at each place the entries count what stands there
entries_count : (least k : ℕ) (counts : List ℕ) → weight (count_at (least + k)) (entries_from least counts) ≡ slice_index counts k
entries_count least k [] = refl
entries_count least zero (n ∷ counts) = here_by least n counts (nat_eq n 0) refl
entries_count least (suc k) (n ∷ counts) =
    later_by least k n counts (nat_eq n 0)
    (ap (λ (p : ℕ). weight (count_at p) (entries_from (least + 1) counts)) (omega arith) ∙ entries_count (least + 1) k counts)

-- ---- what the entries receive

module _ (bus : ℕ) (row : ℕ → Option (List ℕ)) (one : OnePlace row) where
  abbrev of_entry : CountEntry → List Event
  of_entry e = received_row bus e.count (row e.place)

  amount_by : (k : ℕ) (tuple : List ℕ) → row k ≡ Some tuple → (e : CountEntry) (given : List ℕ) → row e.place ≡ Some given → (b : Bool) → is_at Receive bus tuple (received bus e.count given) ≡ b → cond b e.count 0 ≡ count_at k e
  amount_by k tuple at e given is true h =
      let same : given ≡ tuple = (there_of_test Receive bus tuple (received bus e.count given) h).tuple_is in
      let place : nat_eq e.place k ≡ true = eq-eqb e.place k (one.same e.place k tuple (is ∙ ap (λ (t : List ℕ). Some t) same) at) in
      rw place refl
  amount_by k tuple at e given is false h =
      let place : nat_eq e.place k ≡ false =
      ne_eqb e.place k (λ same.
      let both : ◌≡◌ {A = Option (List ℕ)} (Some given) (Some tuple) = sym is ∙ ap row same ∙ at in
      let tuples : given ≡ tuple = cc in
      let there = test_of_there Receive bus tuple (received bus e.count given) (record { bus_is = refl; side_is = refl; tuple_is = tuples }) in
      let z : true ≡ false = sym there ∙ h in absurd (cc)) in
      rw place refl

  entry_by : (k : ℕ) (tuple : List ℕ) → row k ≡ Some tuple → (e : CountEntry) (found : Option (List ℕ)) → row e.place ≡ found → total Receive bus tuple (received_row bus e.count found) ≡ count_at k e
  entry_by k tuple at e None is =
      let place : nat_eq e.place k ≡ false = ne_eqb e.place k (λ same. let h : ◌≡◌ {A = Option (List ℕ)} None (Some tuple) = sym is ∙ ap row same ∙ at in absurd (cc)) in
      rw place refl
  entry_by k tuple at e (Some given) is =
      omega (arith, total-cons Receive bus tuple (received bus e.count given) [], amount_by k tuple at e given is (is_at Receive bus tuple (received bus e.count given)) refl)

  entries_receive : (k : ℕ) (tuple : List ℕ) → row k ≡ Some tuple → (es : List CountEntry) → total Receive bus tuple (flat_map of_entry es) ≡ weight (count_at k) es
  entries_receive k tuple at [] = refl
  entries_receive k tuple at (e ∷ es) =
      omega (arith, total-append Receive bus tuple (of_entry e) (flat_map of_entry es), entry_by k tuple at e (row e.place) refl, entries_receive k tuple at es)

  placed_by : (tuple : List ℕ) (place count : ℕ) (given : List ℕ) → row place ≡ Some given → (b : Bool) → is_at Receive bus tuple (received bus count given) ≡ b → 0 < cond b count 0 → (k : ℕ) × (row k ≡ Some tuple)
  placed_by tuple place count given is true h some = (place, is ∙ ap (λ (t : List ℕ). Some t) (there_of_test Receive bus tuple (received bus count given) h).tuple_is)
  placed_by tuple place count given is false h some = absurd (omega (arith, some))

  placed : (tuple : List ℕ) (e : CountEntry) (found : Option (List ℕ)) → row e.place ≡ found → 0 < total Receive bus tuple (received_row bus e.count found) → (k : ℕ) × (row k ≡ Some tuple)
  placed tuple e None is some = absurd (omega (arith, some))
  placed tuple e (Some given) is some =
      placed_by tuple e.place e.count given is (is_at Receive bus tuple (received bus e.count given)) refl (omega (arith, some, total-cons Receive bus tuple (received bus e.count given) []))

  -- what the entries receive is a row
  entry_row : (tuple : List ℕ) (es : List CountEntry) → 0 < total Receive bus tuple (flat_map of_entry es) → (k : ℕ) × (row k ≡ Some tuple)
  entry_row tuple [] some = absurd (omega (arith, some))
  entry_row tuple (e ∷ es) some =
      ⊎_elim
      (λ (here : 0 < total Receive bus tuple (of_entry e)). placed tuple e (row e.place) refl here)
      (λ (none : total Receive bus tuple (of_entry e) ≤ 0). entry_row tuple es (omega (arith, some, none, total-append Receive bus tuple (of_entry e) (flat_map of_entry es))))
      (cases_lt 0 (total Receive bus tuple (of_entry e)))

  -- Each tuple is received by the entries as often as the events send it, where all that they send is a row.
  pub received_as_sent : (events : List Event) (counts : List ℕ) → ((k : ℕ) (tuple : List ℕ) → row k ≡ Some tuple → slice_index counts k ≡ total Send bus tuple events)
      → ((tuple : List ℕ) → 0 < total Send bus tuple events → (k : ℕ) × (row k ≡ Some tuple)) → (tuple : List ℕ) → total Send bus tuple events ≡ total Receive bus tuple (flat_map of_entry (entries_of counts))
  received_as_sent events counts tallied rows tuple =
      ⊎_elim
      (λ (some : 0 < total Send bus tuple events). let found = rows tuple some in at_row found.0 found.1)
      (λ (none : total Send bus tuple events ≤ 0).
      ⊎_elim
      (λ (some : 0 < total Receive bus tuple (flat_map of_entry (entries_of counts))). let found = entry_row tuple (entries_of counts) some in at_row found.0 found.1)
      (λ (nothing : total Receive bus tuple (flat_map of_entry (entries_of counts)) ≤ 0). omega (arith, none, nothing))
      (cases_lt 0 (total Receive bus tuple (flat_map of_entry (entries_of counts)))))
      (cases_lt 0 (total Send bus tuple events))
    where
      at_row : (k : ℕ) → row k ≡ Some tuple → total Send bus tuple events ≡ total Receive bus tuple (flat_map of_entry (entries_of counts))
      at_row k at =
          sym (tallied k tuple at) ∙ sym (entries_count 0 k counts) ∙ ap (λ (p : ℕ). weight (count_at p) (entries_of counts)) (omega arith)
          ∙ sym (entries_receive k tuple at (entries_of counts))

-- ---- on which bus

row_sends : (bus count other : ℕ) (tuple : List ℕ) (found : Option (List ℕ)) → total Send other tuple (received_row bus count found) ≡ 0
row_sends bus count other tuple None = refl
row_sends bus count other tuple (Some given) = by_bus (nat_eq bus other) refl
  where
    by_bus : (b : Bool) → nat_eq bus other ≡ b → total Send other tuple (received bus count given ∷ []) ≡ 0
    by_bus true e = total-cons Send other tuple (received bus count given) [] ∙ rw e refl
    by_bus false e = total-cons Send other tuple (received bus count given) [] ∙ rw e refl

-- entries send nothing
pub entries_send : (bus other : ℕ) (row : ℕ → Option (List ℕ)) (tuple : List ℕ) (es : List CountEntry) → total Send other tuple (flat_map (λ e. received_row bus e.count (row e.place)) es) ≡ 0
entries_send bus other row tuple [] = refl
entries_send bus other row tuple (e ∷ es) =
    omega (
      arith,
      total-append Send other tuple (received_row bus e.count (row e.place)) (flat_map (λ e. received_row bus e.count (row e.place)) es),
      row_sends bus e.count other tuple (row e.place),
      entries_send bus other row tuple es,
    )

row_bus : (bus count : ℕ) (found : Option (List ℕ)) → AllByRecursion (λ e. e.bus ≡ bus) (received_row bus count found)
row_bus bus count None = tt
row_bus bus count (Some given) = (refl, tt)

pub entries_bus : (bus : ℕ) (row : ℕ → Option (List ℕ)) (es : List CountEntry) → AllByRecursion (λ e. e.bus ≡ bus) (flat_map (λ e. received_row bus e.count (row e.place)) es)
entries_bus bus row [] = tt
entries_bus bus row (e ∷ es) =
    all_append (λ (x : Event). x.bus ≡ bus) (received_row bus e.count (row e.place)) (flat_map (λ e. received_row bus e.count (row e.place)) es) (row_bus bus e.count (row e.place)) (entries_bus bus row es)
