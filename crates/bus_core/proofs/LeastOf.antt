-- The least place at which events don't balance, as a function of the events.
use Rattle.std.proofs.Common.{◌≡◌, ℕ, ◌⊎◌, inl, inr, Bool, true, false, cond, ◌&&◌, nat_eq, List, [], ◌∷◌, Option, Some, None, refl, sym, ◌∙◌, ap, subst, ⊎_elim, arith}
use Rattle.std.specs.Prelude.{◌↔◌, IsNone, IfSome}
use Rattle.std.specs.Cmp.Lexicographic.{pointwise, same_text}
use Rattle.std.specs.Ordering.{is_lt, ordering_reverse}
use Rattle.std.specs.declared.cmp.Ordering.{Ordering}
use Rattle.std.specs.declared.cmp.Ordering.TheVariants.{Less, Equal, Greater}
use Rattle.std.proofs.lemmas.Bool.{and_parts, eqb-true, eq-eqb, cases_Bool}
use Rattle.std.proofs.lemmas.Cmp.{nat_list_cmp_total}
use Rattle.std.proofs.lemmas.Map.Lookups.{exact_bytes}
use Rattle.air_core.specs.declared.event.Event.{Event}
use Rattle.air_core.specs.declared.event.Side.{Side}
use Rattle.air_core.specs.declared.event.Side.TheVariants.{Send, Receive}
use Rattle.air_core.specs.Balance.{total, amount_at, same_side, IsEven, Balanced}
use Rattle.air_core.proofs.BalanceLemmas.{total-cons}
use Rattle.bus_core.specs.declared.Unbalanced.{Unbalanced}
use Rattle.bus_core.specs.Least.{IsBefore, IsUnbalanced, IsLeastUnbalanced, place_cmp, uneven_by, uneven_at, lesser_found, least_among, least_uneven}
use Rattle.bus_core.proofs.Leasts.{not_before_itself, before_both, less_of_test}

abbrev made : ℕ → List ℕ → ℕ → ℕ → Unbalanced
made bus tuple sent received = record { bus = bus; tuple = tuple; sent = sent; received = received }

module _ (events : List Event) where
  abbrev IsFoundIn : Option Unbalanced → Type 0
  IsFoundIn None = Unit {0}
  IsFoundIn (Some u) = IsUnbalanced events u

  -- the place is even, or not before the one that was found
  abbrev Covered : Option Unbalanced → ℕ → List ℕ → Type 0
  Covered None bus tuple = IsEven bus tuple events
  Covered (Some u) bus tuple = IsBefore bus tuple u.bus u.tuple → IsEven bus tuple events

  -- of two
  pick : (a b : Unbalanced) (t : Bool) → IsUnbalanced events a → IsUnbalanced events b → IsUnbalanced events (cond t b a)
  pick a b true h k = k
  pick a b false h k = h

  found_both : (old new : Option Unbalanced) → IsFoundIn old → IsFoundIn new → IsFoundIn (lesser_found old new)
  found_both old None h k = h
  found_both None (Some b) h k = k
  found_both (Some a) (Some b) h k = pick a b (is_lt (place_cmp b.bus b.tuple a.bus a.tuple)) h k

  old_by : (bus : ℕ) (tuple : List ℕ) (a b : Unbalanced) (t : Bool) → is_lt (place_cmp b.bus b.tuple a.bus a.tuple) ≡ t → Covered (Some a) bus tuple → Covered (Some (cond t b a)) bus tuple
  old_by bus tuple a b true e h = λ before. h (before_both bus tuple b a before (less_of_test (place_cmp b.bus b.tuple a.bus a.tuple) e))
  old_by bus tuple a b false e h = h

  covered_old : (bus : ℕ) (tuple : List ℕ) (old new : Option Unbalanced) → Covered old bus tuple → Covered (lesser_found old new) bus tuple
  covered_old bus tuple old None h = h
  covered_old bus tuple None (Some b) h = λ before. h
  covered_old bus tuple (Some a) (Some b) h = old_by bus tuple a b (is_lt (place_cmp b.bus b.tuple a.bus a.tuple)) refl h

  even_covered : (bus : ℕ) (tuple : List ℕ) (o : Option Unbalanced) → IsEven bus tuple events → Covered o bus tuple
  even_covered bus tuple None h = h
  even_covered bus tuple (Some u) h = λ before. h

  new_by : (a b : Unbalanced) (t : Bool) → is_lt (place_cmp b.bus b.tuple a.bus a.tuple) ≡ t → Covered (Some (cond t b a)) b.bus b.tuple
  new_by a b true e = λ before. absurd (not_before_itself b.bus b.tuple before)
  new_by a b false e = λ before. let same : false ≡ true = sym e ∙ ap is_lt before in cc

  covered_new : (old : Option Unbalanced) (bus : ℕ) (tuple : List ℕ) (sent received : ℕ) → Covered (lesser_found old (Some (record { bus = bus; tuple = tuple; sent = sent; received = received }))) bus tuple
  covered_new None bus tuple sent received = λ before. absurd (not_before_itself bus tuple before)
  covered_new (Some a) bus tuple sent received =
      let b : Unbalanced = record { bus = bus; tuple = tuple; sent = sent; received = received } in
      new_by a b (is_lt (place_cmp b.bus b.tuple a.bus a.tuple)) refl

  here_by : (old : Option Unbalanced) (bus : ℕ) (tuple : List ℕ) (t : Bool) → nat_eq (total Send bus tuple events) (total Receive bus tuple events) ≡ t
      → Covered (lesser_found old (uneven_by t bus tuple (total Send bus tuple events) (total Receive bus tuple events))) bus tuple
  here_by old bus tuple true e = even_covered bus tuple old (eqb-true _ _ e)
  here_by old bus tuple false e = covered_new old bus tuple (total Send bus tuple events) (total Receive bus tuple events)

  -- the place of an event is covered
  covered_here : (old : Option Unbalanced) (bus : ℕ) (tuple : List ℕ) → Covered (lesser_found old (uneven_at events bus tuple)) bus tuple
  covered_here old bus tuple = here_by old bus tuple (nat_eq (total Send bus tuple events) (total Receive bus tuple events)) refl

  found_by : (bus : ℕ) (tuple : List ℕ) (t : Bool) → nat_eq (total Send bus tuple events) (total Receive bus tuple events) ≡ t
      → IsFoundIn (uneven_by t bus tuple (total Send bus tuple events) (total Receive bus tuple events))
  found_by bus tuple true e = tt
  found_by bus tuple false e = record {
    sent = refl;
    received = refl;
    differ = λ same. let wrong : true ≡ false = sym (eq-eqb _ _ same) ∙ e in cc;
  }

  found : (es : List Event) → IsFoundIn (least_among events es)
  found [] = tt
  found (e ∷ es) =
      found_both (least_among events es) (uneven_at events e.bus e.tuple) (found es) (found_by e.bus e.tuple (nat_eq (total Send e.bus e.tuple events) (total Receive e.bus e.tuple events)) refl)

  -- nothing is sent or received there
  abbrev Nowhere : ℕ → List ℕ → List Event → Type 0
  Nowhere bus tuple es = (total Send bus tuple es ≡ 0) × (total Receive bus tuple es ≡ 0)

  elsewhere : (side : Side) (bus : ℕ) (tuple : List ℕ) (e : Event) (b t s : Bool) → nat_eq e.bus bus ≡ b → pointwise nat_eq e.tuple tuple ≡ t → (b && t) ≡ false → cond (b && (s && t)) e.count 0 ≡ 0
  elsewhere side bus tuple e true true s h k wrong = cc
  elsewhere side bus tuple e true false true h k is = refl
  elsewhere side bus tuple e true false false h k is = refl
  elsewhere side bus tuple e false t s h k is = refl

  not_there : (side : Side) (bus : ℕ) (tuple : List ℕ) (e : Event) → (nat_eq e.bus bus && pointwise nat_eq e.tuple tuple) ≡ false → amount_at side bus tuple e ≡ 0
  not_there side bus tuple e h = elsewhere side bus tuple e (nat_eq e.bus bus) (pointwise nat_eq e.tuple tuple) (same_side e.side side) refl refl h

  covers : (es : List Event) (bus : ℕ) (tuple : List ℕ) → Nowhere bus tuple es ⊎ Covered (least_among events es) bus tuple
  covers [] bus tuple = inl (refl, refl)
  covers (e ∷ es) bus tuple =
      ⊎_elim
      (λ (is : (nat_eq e.bus bus && pointwise nat_eq e.tuple tuple) ≡ true).
      let parts = and_parts (nat_eq e.bus bus) (pointwise nat_eq e.tuple tuple) is in
      inr (subst (λ (b : ℕ). Covered (least_among events (e ∷ es)) b tuple) (eqb-true e.bus bus parts.0)
      (subst (λ (t : List ℕ). Covered (least_among events (e ∷ es)) e.bus t) (same_text e.tuple tuple (sym parts.1)) (covered_here (least_among events es) e.bus e.tuple))))
      (λ (other : (nat_eq e.bus bus && pointwise nat_eq e.tuple tuple) ≡ false).
      ⊎_elim
      (λ (none : Nowhere bus tuple es).
      inl (omega (arith, total-cons Send bus tuple e es, not_there Send bus tuple e other, none.0), omega (arith, total-cons Receive bus tuple e es, not_there Receive bus tuple e other, none.1)))
      (λ (covered : Covered (least_among events es) bus tuple). inr (covered_old bus tuple (least_among events es) (uneven_at events e.bus e.tuple) covered))
      (covers es bus tuple))
      (cases_Bool (nat_eq e.bus bus && pointwise nat_eq e.tuple tuple))

  all_covered : (bus : ℕ) (tuple : List ℕ) → Covered (least_among events events) bus tuple
  all_covered bus tuple =
      ⊎_elim (λ (none : Nowhere bus tuple events). even_covered bus tuple (least_among events events) (none.0 ∙ sym none.1)) (λ (covered : Covered (least_among events events) bus tuple). covered) (covers events bus tuple)

  least_by : (o : Option Unbalanced) → IsFoundIn o → ((bus : ℕ) (tuple : List ℕ) → Covered o bus tuple) → (IsNone o ↔ Balanced events) × IfSome o (IsLeastUnbalanced events)
  least_by None f c = ((λ none. record { even = c }, λ balanced. refl), tt)
  least_by (Some u) f c = ((λ none. cc, λ balanced. absurd (f.differ (f.sent ∙ balanced.even u.bus u.tuple ∙ sym f.received))), record { unbalanced = f; least = c })

  -- None exactly where the events balance, else the least place
  pub least_uneven_is : (IsNone (least_uneven events) ↔ Balanced events) × IfSome (least_uneven events) (IsLeastUnbalanced events)
  unfolding least_uneven
  least_uneven_is = least_by (least_among events events) (found events) all_covered

  one_by : (a b : Unbalanced) (o : Ordering) → place_cmp a.bus a.tuple b.bus b.tuple ≡ o → IsLeastUnbalanced events a → IsLeastUnbalanced events b → a ≡ b
  one_by a b Less e h k = absurd (h.unbalanced.differ (h.unbalanced.sent ∙ k.least a.bus a.tuple e ∙ sym h.unbalanced.received))
  one_by a b Greater e h k =
      let turned : IsBefore b.bus b.tuple a.bus a.tuple = nat_list_cmp_total.antisymm (b.bus ∷ b.tuple) (a.bus ∷ a.tuple) ∙ ap ordering_reverse e in
      absurd (k.unbalanced.differ (k.unbalanced.sent ∙ h.least b.bus b.tuple turned ∙ sym k.unbalanced.received))
  one_by a b Equal e h k =
      let same = exact_bytes (a.bus ∷ a.tuple) (b.bus ∷ b.tuple) e in
      let bus : a.bus ≡ b.bus = cc in
      let tuple : a.tuple ≡ b.tuple = cc in
      let sent : a.sent ≡ b.sent = h.unbalanced.sent ∙ ap (λ (n : ℕ). total Send n a.tuple events) bus ∙ ap (λ (t : List ℕ). total Send b.bus t events) tuple ∙ sym k.unbalanced.sent in
      let received : a.received ≡ b.received = h.unbalanced.received ∙ ap (λ (n : ℕ). total Receive n a.tuple events) bus ∙ ap (λ (t : List ℕ). total Receive b.bus t events) tuple ∙ sym k.unbalanced.received in
      ap (λ (n : ℕ). made n a.tuple a.sent a.received) bus ∙ ap (λ (t : List ℕ). made b.bus t a.sent a.received) tuple
      ∙ ap (λ (n : ℕ). made b.bus b.tuple n a.received) sent ∙ ap (λ (n : ℕ). made b.bus b.tuple b.sent n) received

  same_by : (o p : Option Unbalanced) → (IsNone o ↔ Balanced events) × IfSome o (IsLeastUnbalanced events) → (IsNone p ↔ Balanced events) × IfSome p (IsLeastUnbalanced events) → o ≡ p
  same_by None None h k = refl
  same_by None (Some b) h k = let wrong = k.0.1 (h.0.0 refl) in absurd cc
  same_by (Some a) None h k = let wrong = h.0.1 (k.0.0 refl) in absurd cc
  same_by (Some a) (Some b) h k = ap (λ (u : Unbalanced). Some u) (one_by a b (place_cmp a.bus a.tuple b.bus b.tuple) refl h.1 k.1)

  -- so what meets that is this function's value
  pub is_least_uneven : (o : Option Unbalanced) → (IsNone o ↔ Balanced events) → IfSome o (IsLeastUnbalanced events) → o ≡ least_uneven events
  is_least_uneven o h k = same_by o (least_uneven events) (h, k) least_uneven_is
