-- What a test of each element or event shows.
use Rattle.std.proofs.Common.{◌≡◌, ℕ, ◌<◌, ◌≤◌, Bool, true, ◌&&◌, nat_eq, List, [], ◌∷◌, refl, sym, subst, arith, ⊎_elim}
use Rattle.std.specs.Prelude.{nat_lt}
use Rattle.std.specs.List.{AllByRecursion}
use Rattle.std.proofs.lemmas.Bool.{and_parts, eqb-true, ltb-true, cases_lt}
use Rattle.std.proofs.lemmas.List.Elements.{All-contains, All-from_recursion}
use Rattle.air_core.specs.declared.event.Event.{Event}
use Rattle.air_core.specs.declared.event.Side.{Side}
use Rattle.air_core.specs.declared.event.Side.TheVariants.{Send, Receive}
use Rattle.air_core.specs.Balance.{Balanced, IsEven, total}
use Rattle.air_core.proofs.BalanceLemmas.{member_of_total}

unfoldable pub each_below : ℕ → List ℕ → Bool
each_below limit [] = true
each_below limit (x ∷ xs) = nat_lt x limit && each_below limit xs

pub all_below : (limit : ℕ) (xs : List ℕ) → each_below limit xs ≡ true → AllByRecursion (λ x. x < limit) xs
unfolding each_below
all_below limit [] h = tt
all_below limit (x ∷ xs) h = let parts = and_parts (nat_lt x limit) (each_below limit xs) h in (ltb-true x limit parts.0, all_below limit xs parts.1)

-- at each of these events the sums are the same
unfoldable pub each_even : List Event → List Event → Bool
each_even events [] = true
each_even events (e ∷ es) = nat_eq (total Send e.bus e.tuple events) (total Receive e.bus e.tuple events) && each_even events es

abbrev EvenAt : List Event → Event → Type 0
EvenAt events e = IsEven e.bus e.tuple events

all_even : (events es : List Event) → each_even events es ≡ true → AllByRecursion (EvenAt events) es
unfolding each_even
all_even events [] h = tt
all_even events (e ∷ es) h =
    let parts = and_parts (nat_eq (total Send e.bus e.tuple events) (total Receive e.bus e.tuple events)) (each_even events es) h in
    (eqb-true (total Send e.bus e.tuple events) (total Receive e.bus e.tuple events) parts.0, all_even events es parts.1)

-- then they are the same wherever something is said, and elsewhere both are 0
even_where : (events : List Event) → AllByRecursion (EvenAt events) events → (side : Side) (bus : ℕ) (tuple : List ℕ) → 0 < total side bus tuple events → IsEven bus tuple events
even_where events all side bus tuple some =
    let found = member_of_total side bus tuple events some in
    let even : IsEven found.event.bus found.event.tuple events = All-contains (EvenAt events) events found.event (All-from_recursion (EvenAt events) events all) found.member in
    subst (λ (t : List ℕ). IsEven bus t events) found.there.tuple_is (subst (λ (b : ℕ). IsEven b found.event.tuple events) found.there.bus_is even)

pub balanced_by_test : (events : List Event) → each_even events events ≡ true → Balanced events
balanced_by_test events h = record { even = even }
  where
    even : (bus : ℕ) (tuple : List ℕ) → IsEven bus tuple events
    even bus tuple =
        ⊎_elim
        (λ (sent : 0 < total Send bus tuple events). even_where events (all_even events events h) Send bus tuple sent)
        (λ (none : total Send bus tuple events ≤ 0).
        ⊎_elim
        (λ (received : 0 < total Receive bus tuple events). even_where events (all_even events events h) Receive bus tuple received)
        (λ (nothing : total Receive bus tuple events ≤ 0). omega arith)
        (cases_lt 0 (total Receive bus tuple events)))
        (cases_lt 0 (total Send bus tuple events))
