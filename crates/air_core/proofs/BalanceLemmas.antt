-- Sums of counts at one side, bus and tuple.
use Rattle.std.proofs.Common.{◌≡◌, ℕ, suc, ◌+◌, ◌<◌, ◌≤◌, Bool, true, false, cond, ◌&&◌, nat_eq, List, [], ◌∷◌, ◌++◌, Contains, refl, sym, arith, ⊎_elim}
use Rattle.std.specs.Prelude.{IsPermutation, flat_map}
use Rattle.std.specs.List.{AllByRecursion}
use Rattle.air_core.specs.ListLemmas.{all_weaker}
use Rattle.air_core.specs.Sheet.{counted, if_counted}
use Rattle.std.specs.Cmp.Lexicographic.{pointwise, same_text}
use Rattle.std.proofs.lemmas.Bool.{and_parts, eqb-true, eq-eqb, cases_Bool, cases_lt}
use Rattle.std.proofs.lemmas.List.Sums.{sum_by-append, sum_by-cons}
use Rattle.std.proofs.lemmas.List.Sorted.{sum_by-IsPermutation}
use Rattle.air_core.specs.declared.event.Event.{Event}
use Rattle.air_core.specs.declared.event.Side.{Side}
use Rattle.air_core.specs.declared.event.Side.TheVariants.{Send, Receive}
use Rattle.air_core.specs.Balance.{same_side, is_at, amount_at, total}

pub total-cons : (side : Side) (bus : ℕ) (tuple : List ℕ) (e : Event) (es : List Event) → total side bus tuple (e ∷ es) ≡ amount_at side bus tuple e + total side bus tuple es
total-cons side bus tuple e es = sum_by-cons (amount_at side bus tuple) e es

pub total-append : (side : Side) (bus : ℕ) (tuple : List ℕ) (xs ys : List Event) → total side bus tuple (xs ++ ys) ≡ total side bus tuple xs + total side bus tuple ys
total-append side bus tuple xs ys = sum_by-append (amount_at side bus tuple) xs ys

pub total-IsPermutation : (side : Side) (bus : ℕ) (tuple : List ℕ) (xs ys : List Event) → IsPermutation xs ys → total side bus tuple ys ≡ total side bus tuple xs
total-IsPermutation side bus tuple xs ys p = sum_by-IsPermutation (amount_at side bus tuple) xs ys p

same_side_parts : (s t : Side) → same_side s t ≡ true → s ≡ t
same_side_parts Send Send h = refl
same_side_parts Receive Receive h = refl
same_side_parts Send Receive h = absurd (cc)
same_side_parts Receive Send h = absurd (cc)

same_side_itself : (s : Side) → same_side s s ≡ true
same_side_itself Send = refl
same_side_itself Receive = refl

pointwise_itself : (xs : List ℕ) → pointwise nat_eq xs xs ≡ true
pointwise_itself [] = refl
pointwise_itself (x ∷ xs) = rw (eq-eqb x x refl, pointwise_itself xs) refl

-- an event there has this bus, this side and this tuple
pub record IsThere (side : Side) (bus : ℕ) (tuple : List ℕ) (e : Event) : Type 0 where
  pub bus_is : e.bus ≡ bus
  pub side_is : e.side ≡ side
  pub tuple_is : e.tuple ≡ tuple

pub there_of_test : (side : Side) (bus : ℕ) (tuple : List ℕ) (e : Event) → is_at side bus tuple e ≡ true → IsThere side bus tuple e
there_of_test side bus tuple e h =
    let first = and_parts (nat_eq e.bus bus) (same_side e.side side && pointwise nat_eq e.tuple tuple) h in
    let second = and_parts (same_side e.side side) (pointwise nat_eq e.tuple tuple) first.1 in
    record {
      bus_is = eqb-true e.bus bus first.0;
      side_is = same_side_parts e.side side second.0;
      tuple_is = same_text e.tuple tuple (sym second.1);
    }

pub test_of_there : (side : Side) (bus : ℕ) (tuple : List ℕ) (e : Event) → IsThere side bus tuple e → is_at side bus tuple e ≡ true
test_of_there side bus tuple e h =
    rw (h.bus_is, h.side_is, h.tuple_is, eq-eqb bus bus refl, same_side_itself side, pointwise_itself tuple) refl

-- an event of the list that is there, with a count
pub record Member (side : Side) (bus : ℕ) (tuple : List ℕ) (events : List Event) : Type 0 where
  pub event : Event
  pub member : Contains events event
  pub there : IsThere side bus tuple event
  pub counts : 0 < event.count

member_cons : (side : Side) (bus : ℕ) (tuple : List ℕ) (e : Event) (es : List Event) → Member side bus tuple es → Member side bus tuple (e ∷ es)
member_cons side bus tuple e es m = record {
  event = m.event;
  member = (suc m.member.0, omega (arith, m.member.1), m.member.2);
  there = m.there;
  counts = m.counts;
}

member_first : (side : Side) (bus : ℕ) (tuple : List ℕ) (e : Event) (es : List Event) → is_at side bus tuple e ≡ true → 0 < e.count → Member side bus tuple (e ∷ es)
member_first side bus tuple e es h c = record {
  event = e;
  member = (0, omega arith, refl);
  there = there_of_test side bus tuple e h;
  counts = c;
}

-- a sum above 0 has such an event
pub member_of_total : (side : Side) (bus : ℕ) (tuple : List ℕ) (events : List Event) → 0 < total side bus tuple events → Member side bus tuple events
member_of_total side bus tuple [] h = absurd (omega arith)
member_of_total side bus tuple (e ∷ es) h =
    ⊎_elim
    (λ (here : is_at side bus tuple e ≡ true).
    ⊎_elim
    (λ (some : 0 < e.count). member_first side bus tuple e es here some)
    (λ (none : e.count ≤ 0).
    let nothing : amount_at side bus tuple e ≡ 0 = rw here (omega arith) in
    member_cons side bus tuple e es (member_of_total side bus tuple es (omega (arith, h, total-cons side bus tuple e es, nothing))))
    (cases_lt 0 e.count))
    (λ (other : is_at side bus tuple e ≡ false).
    let nothing : amount_at side bus tuple e ≡ 0 = rw other refl in
    member_cons side bus tuple e es (member_of_total side bus tuple es (omega (arith, h, total-cons side bus tuple e es, nothing))))
    (cases_Bool (is_at side bus tuple e))

-- ---- events that are counted, and rows among rows

amount_none : (there : Bool) (count : ℕ) → count ≡ 0 → 0 ≡ cond there count 0
amount_none true count zero = sym zero
amount_none false count zero = refl

total_if : (side : Side) (bus : ℕ) (tuple : List ℕ) (e : Event) (none : Bool) → nat_eq e.count 0 ≡ none → total side bus tuple (cond none [] (e ∷ [])) ≡ amount_at side bus tuple e
total_if side bus tuple e true z = amount_none (is_at side bus tuple e) e.count (eqb-true e.count 0 z)
total_if side bus tuple e false z = omega (arith, total-cons side bus tuple e [])

-- an event of count 0 adds nothing, so sums of what is said are sums of all lines
pub total-counted : (side : Side) (bus : ℕ) (tuple : List ℕ) (lines : List Event) → total side bus tuple (counted lines) ≡ total side bus tuple lines
total-counted side bus tuple [] = refl
total-counted side bus tuple (e ∷ lines) =
    omega (arith, total-append side bus tuple (if_counted e) (counted lines), total_if side bus tuple e (nat_eq e.count 0) refl, total-cons side bus tuple e lines, total-counted side bus tuple lines)

-- the sum of a row is at most the sum of all rows
pub total_part : (side : Side) (bus : ℕ) (tuple : List ℕ) (f : List ℕ → List Event) (rows : List (List ℕ)) → AllByRecursion (λ row. total side bus tuple (f row) ≤ total side bus tuple (flat_map f rows)) rows
total_part side bus tuple f [] = tt
total_part side bus tuple f (row ∷ rows) =
    let whole = total-append side bus tuple (f row) (flat_map f rows) in (
      omega (arith, whole),
      all_weaker (λ r. total side bus tuple (f r) ≤ total side bus tuple (flat_map f rows)) (λ r. total side bus tuple (f r) ≤ total side bus tuple (flat_map f (row ∷ rows)))
          (λ r le. omega (arith, le, whole)) rows (total_part side bus tuple f rows),
    )
