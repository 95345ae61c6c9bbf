-- Counts of the lookup tables' rows, with an event more.
use Rattle.std.proofs.Common.{◌≡◌, ◌≢◌, ℕ, zero, suc, ◌+◌, ◌<◌, Bool, true, false, cond, List, [], ◌∷◌, ◌++◌, length, slice_index, set, replicate, min, refl, sym, ap, ◌∙◌, subst, arith, ⊎_elim, inl, inr}
use Rattle.std.proofs.lemmas.Bool.{cases_eq}
use Rattle.std.proofs.lemmas.List.{get_or-set_same, get_or-set_other}
use Rattle.air_core.specs.declared.event.Event.{Event}
use Rattle.air_core.specs.declared.event.Side.TheVariants.{Send}
use Rattle.air_core.specs.Balance.{is_at, amount_at, total}
use Rattle.air_core.proofs.BalanceLemmas.{total-append, total-cons, there_of_test, test_of_there}
use Rattle.lookup_tables.specs.Places.{IsRowAt}
use Rattle.lookup_tables.proofs.PlaceLemmas.{bus_cases, one_place, one_row, rows_below}
use Rattle.vm_filler.specs.Lookups.{LookupCounts, AreSized, CountsSent, CountLookups, most, used_at, used_on}

last_total : (bus : ℕ) (tuple : List ℕ) (events : List Event) (e : Event) → total Send bus tuple (events ++ e ∷ []) ≡ total Send bus tuple events + amount_at Send bus tuple e
last_total bus tuple events e = omega (arith, total-append Send bus tuple events (e ∷ []), total-cons Send bus tuple e [])

-- an event that sends no row of the table changes nothing
sent_more : (bus : ℕ) (events : List Event) (e : Event) (counts : List ℕ) → ((place : ℕ) (tuple : List ℕ) → IsRowAt bus place tuple → amount_at Send bus tuple e ≡ 0)
    → CountsSent bus events counts → CountsSent bus (events ++ e ∷ []) counts
sent_more bus events e counts none sent = record {
  at = λ place tuple at.
      let same : total Send bus tuple events ≡ total Send bus tuple (events ++ e ∷ []) = omega (arith, last_total bus tuple events e, none place tuple at) in
      sent.at place tuple at ∙ ap (λ (n : ℕ). min n most) same;
}

away_by : (bus : ℕ) (tuple : List ℕ) (e : Event) (b : Bool) → is_at Send bus tuple e ≡ b → (b ≡ true → ⊥) → cond b e.count 0 ≡ 0
away_by bus tuple e true at never = absurd (never refl)
away_by bus tuple e false at never = refl

away : (bus : ℕ) (tuple : List ℕ) (e : Event) → (is_at Send bus tuple e ≡ true → ⊥) → amount_at Send bus tuple e ≡ 0
away bus tuple e never = away_by bus tuple e (is_at Send bus tuple e) refl never

amount_here : (bus : ℕ) (tuple : List ℕ) (e : Event) → e.bus ≡ bus → e.side ≡ Send → e.tuple ≡ tuple → amount_at Send bus tuple e ≡ e.count
amount_here bus tuple e on side same =
    let at = test_of_there Send bus tuple e (record { bus_is = on; side_is = side; tuple_is = same }) in rw at refl

added : (a b : ℕ) → min (min a most + b) most ≡ min (a + b) most
added a b = omega arith

-- one that sends the row at a place adds its count there
sent_one : (bus : ℕ) (events : List Event) (e : Event) (counts : List ℕ) (k : ℕ) → e.bus ≡ bus → e.side ≡ Send → IsRowAt bus k e.tuple → k < length counts
    → CountsSent bus events counts → CountsSent bus (events ++ e ∷ []) (used_at counts k e.count)
sent_one bus events e counts k on side row low sent =
    let n : ℕ = min (slice_index counts k + e.count) most in
    record {
      at = λ place tuple at.
          ⊎_elim
          (λ (same : place ≡ k).
          let at_k : IsRowAt bus k tuple = subst (λ (p : ℕ). IsRowAt bus p tuple) same at in
          let tuples : e.tuple ≡ tuple = one_row bus k e.tuple tuple row at_k in
          let sum : total Send bus tuple events + e.count ≡ total Send bus tuple (events ++ e ∷ []) = omega (arith, last_total bus tuple events e, amount_here bus tuple e on side tuples) in
          ap (λ (p : ℕ). slice_index (set counts k n) p) same ∙ get_or-set_same counts k n 0 low
          ∙ ap (λ (m : ℕ). min (m + e.count) most) (sent.at k tuple at_k) ∙ added (total Send bus tuple events) e.count ∙ ap (λ (m : ℕ). min m most) sum)
          (λ (differ : place ≡ k → ⊥).
          let nothing : amount_at Send bus tuple e ≡ 0 =
          away bus tuple e (λ there. differ (one_place bus place k tuple at (subst (IsRowAt bus k) (there_of_test Send bus tuple e there).tuple_is row))) in
          let same : total Send bus tuple events ≡ total Send bus tuple (events ++ e ∷ []) = omega (arith, last_total bus tuple events e, nothing) in
          get_or-set_other counts k place n 0 differ ∙ sent.at place tuple at ∙ ap (λ (m : ℕ). min m most) same)
          (cases_eq place k);
    }

-- an event of another bus
elsewhere : (bus : ℕ) (events : List Event) (e : Event) (counts : List ℕ) → e.bus ≢ bus → CountsSent bus events counts → CountsSent bus (events ++ e ∷ []) counts
elsewhere bus events e counts differs = sent_more bus events e counts (λ place tuple at. away bus tuple e (λ there. differs (there_of_test Send bus tuple e there).bus_is))

-- ---- all three tables

-- an event that sends the row at a place
pub all_used : (c : LookupCounts) (events : List Event) (e : Event) (k : ℕ) → AreSized c → e.side ≡ Send → IsRowAt e.bus k e.tuple → CountLookups c events → CountLookups (used_on c e.bus k e.count) (events ++ e ∷ [])
all_used c events e k sizes side row held =
    elim (bus_cases e.bus row.low row.high) [
      | inl is ↦
          let here : IsRowAt 3 k e.tuple = subst (λ (b : ℕ). IsRowAt b k e.tuple) is row in
          subst (λ (b : ℕ). CountLookups (used_on c b k e.count) (events ++ e ∷ [])) (sym is)
          (record {
            xor = sent_one 3 events e c.xor k is side here (omega (arith, sizes.xor, rows_below 3 k e.tuple here)) held.xor;
            range = elsewhere 4 events e c.range (λ h. omega (arith, h, is)) held.range;
            constants = elsewhere 5 events e c.constants (λ h. omega (arith, h, is)) held.constants;
          })
      | inr (inl is) ↦
          let here : IsRowAt 4 k e.tuple = subst (λ (b : ℕ). IsRowAt b k e.tuple) is row in
          subst (λ (b : ℕ). CountLookups (used_on c b k e.count) (events ++ e ∷ [])) (sym is)
          (record {
            xor = elsewhere 3 events e c.xor (λ h. omega (arith, h, is)) held.xor;
            range = sent_one 4 events e c.range k is side here (omega (arith, sizes.range, rows_below 4 k e.tuple here)) held.range;
            constants = elsewhere 5 events e c.constants (λ h. omega (arith, h, is)) held.constants;
          })
      | inr (inr is) ↦
          let here : IsRowAt 5 k e.tuple = subst (λ (b : ℕ). IsRowAt b k e.tuple) is row in
          subst (λ (b : ℕ). CountLookups (used_on c b k e.count) (events ++ e ∷ [])) (sym is)
          (record {
            xor = elsewhere 3 events e c.xor (λ h. omega (arith, h, is)) held.xor;
            range = elsewhere 4 events e c.range (λ h. omega (arith, h, is)) held.range;
            constants = sent_one 5 events e c.constants k is side here (omega (arith, sizes.constants, rows_below 5 k e.tuple here)) held.constants;
          })
    ]

unused : (c : LookupCounts) (events : List Event) (e : Event) → ((bus place : ℕ) (tuple : List ℕ) → IsRowAt bus place tuple → is_at Send bus tuple e ≡ true → ⊥) → CountLookups c events → CountLookups c (events ++ e ∷ [])
unused c events e never held = record {
  xor = sent_more 3 events e c.xor (λ place tuple at. away 3 tuple e (never 3 place tuple at)) held.xor;
  range = sent_more 4 events e c.range (λ place tuple at. away 4 tuple e (never 4 place tuple at)) held.range;
  constants = sent_more 5 events e c.constants (λ place tuple at. away 5 tuple e (never 5 place tuple at)) held.constants;
}

-- one that is not sent
pub not_sent : (c : LookupCounts) (events : List Event) (e : Event) → (e.side ≡ Send → ⊥) → CountLookups c events → CountLookups c (events ++ e ∷ [])
not_sent c events e never held = unused c events e (λ bus place tuple at there. never (there_of_test Send bus tuple e there).side_is) held

-- or one whose tuple is no row of its bus
pub no_row : (c : LookupCounts) (events : List Event) (e : Event) → ((k : ℕ) → IsRowAt e.bus k e.tuple → ⊥) → CountLookups c events → CountLookups c (events ++ e ∷ [])
no_row c events e never held =
    unused c events e
    (λ bus place tuple at there.
    let t = there_of_test Send bus tuple e there in
    never place (subst (λ (b : ℕ). IsRowAt b place e.tuple) (sym t.bus_is) (subst (IsRowAt bus place) (sym t.tuple_is) at))) held

-- ---- no events

zero_at : (n k : ℕ) → slice_index (replicate n 0) k ≡ 0
zero_at zero k = refl
zero_at (suc n) zero = refl
zero_at (suc n) (suc k) = zero_at n k

-- the counts of no events
pub counts_none : (bus n : ℕ) (counts : List ℕ) → counts ≡ replicate n 0 → CountsSent bus [] counts
counts_none bus n counts is = record { at = λ place tuple at. ap (λ (c : List ℕ). slice_index c place) is ∙ zero_at n place }
