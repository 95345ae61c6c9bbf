-- What passes from row to row on a private bus whose tuples are a time, a level and a body. A predicate of level and
-- body that holds of what is sent at level 0, and that each row keeps from what it receives to what it sends a level
-- higher, holds of all that is sent. Levels only rise, so no path is followed and nothing is counted.
use Rattle.std.proofs.Common.{◌≡◌, ◌≢◌, ℕ, zero, suc, ◌+◌, ◌<◌, ◌⊎◌, List, [], ◌∷◌, length, sym, subst, arith, inl, inr}
use Rattle.std.specs.Prelude.{slice_index_or}
use Rattle.std.specs.List.{AllByRecursion}
use Rattle.air_core.specs.declared.event.Event.{Event}
use Rattle.air_core.specs.declared.event.Side.TheVariants.{Send, Receive}
use Rattle.air_core.specs.Balance.{total}
use Rattle.air_core.proofs.BalanceLemmas.{member_of_total}

-- the body at a level comes from a body a level lower that is received
pub record Passed (P : ℕ → List ℕ → Type 0) (bus time : ℕ) (all : List Event) (level : ℕ) (body : List ℕ) : Type 0 where
  pub before : ℕ
  pub from : List ℕ
  pub is : level ≡ before + 1
  pub received : 0 < total Receive bus (time ∷ before ∷ from) all
  pub keeps : P before from → P level body

-- where an event sends a body on the bus at this time, it is a start or passed on
pub record Linked (P : ℕ → List ℕ → Type 0) (bus time : ℕ) (all : List Event) (e : Event) : Type 0 where
  pub comes : (level : ℕ) (body : List ℕ) → e.bus ≡ bus → e.side ≡ Send → e.count ≢ 0 → e.tuple ≡ time ∷ level ∷ body
      → ((level ≡ 0) × P 0 body) ⊎ Passed P bus time all level body

pub all_contains : {X : Type 0} (P : X → Type 0) (xs : List X) (k : ℕ) (x : X) → AllByRecursion P xs → k < length xs → slice_index_or xs k x ≡ x → P x
all_contains P [] k x a low is = absurd (omega (arith, low))
all_contains P (y ∷ xs) zero x a low is = subst P is a.0
all_contains P (y ∷ xs) (suc k) x a low is = all_contains P xs k x a.1 (omega (arith, low)) is

module _ (P : ℕ → List ℕ → Type 0) (bus time : ℕ) (all : List Event)
    (even : (tuple : List ℕ) → total Send bus tuple all ≡ total Receive bus tuple all)
    (links : AllByRecursion (Linked P bus time all) all) where
  from_sender : (level : ℕ) (body : List ℕ) → 0 < total Send bus (time ∷ level ∷ body) all → ((level ≡ 0) × P 0 body) ⊎ Passed P bus time all level body
  from_sender level body some =
      let m = member_of_total Send bus (time ∷ level ∷ body) all some in
      let l : Linked P bus time all m.event = all_contains (Linked P bus time all) all m.member.0 m.event links m.member.1 m.member.2 in
      l.comes level body m.there.bus_is m.there.side_is (omega (arith, m.counts)) m.there.tuple_is

  -- all that is sent at this time has P
  pub sent_has : (level : ℕ) (body : List ℕ) → 0 < total Send bus (time ∷ level ∷ body) all → P level body
  sent_has zero body some = elim (from_sender zero body some) [ inl (_, p) ↦ p | inr passed ↦ absurd (omega (arith, passed.is)) ]
  sent_has (suc level) body some = elim (from_sender (suc level) body some) [
    | inl (is, p) ↦ absurd (omega (arith, is))
    | inr passed ↦
        let same : passed.before ≡ level = omega (arith, passed.is) in
        let sent_before : 0 < total Send bus (time ∷ level ∷ passed.from) all
        = subst (λ (n : ℕ). 0 < total Send bus (time ∷ n ∷ passed.from) all) same (omega (arith, even (time ∷ passed.before ∷ passed.from), passed.received)) in
        passed.keeps (subst (λ (n : ℕ). P n passed.from) (sym same) (sent_has level passed.from sent_before))
  ]

  -- and so has all that is received
  pub received_has : (level : ℕ) (body : List ℕ) → 0 < total Receive bus (time ∷ level ∷ body) all → P level body
  received_has level body some = sent_has level body (omega (arith, even (time ∷ level ∷ body), some))
