-- The least of the places whose sums differ, among the first that are kept, and that it is the least of all places.
use Rattle.std.proofs.Common.{◌≡◌, ◌≢◌, ℕ, zero, suc, ◌+◌, ◌≤◌, ◌<◌, ◌⊎◌, inl, inr, arith, length, ◌++◌, Bool, true, false, cond, nat_eq, List, [], ◌∷◌, Option, Some, None, refl, sym, ◌∙◌, ap, subst, ⊎_elim}
use Rattle.std.specs.Prelude.{◌↔◌, IsNone, IfSome}
use Rattle.std.specs.Cmp.{IsEquivalence, and_equiv, on_equiv, nat_eq_equiv}
use Rattle.std.specs.Cmp.Lexicographic.{pointwise, same_text, nat_list_eq_equiv}
use Rattle.std.specs.Map.{lookup}
use Rattle.std.specs.Option.{option_map_or}
use Rattle.std.specs.Ordering.{is_lt, ordering_reverse}
use Rattle.std.specs.declared.cmp.Ordering.{Ordering}
use Rattle.std.specs.declared.cmp.Ordering.TheVariants.{Less, Equal, Greater}
use Rattle.std.proofs.lemmas.Bool.{and_parts, eqb-true, cases_Bool}
use Rattle.std.proofs.lemmas.Cmp.{nat_list_cmp_total}
use Rattle.std.proofs.lemmas.Map.Entries.{lookup_head, lookup_tail}
use Rattle.air_core.specs.declared.event.Event.{Event}
use Rattle.air_core.specs.declared.event.Side.{Side}
use Rattle.air_core.specs.declared.event.Side.TheVariants.{Send, Receive}
use Rattle.air_core.specs.Balance.{IsEven, Balanced}
use Rattle.bus_core.specs.declared.Place.{Place}
use Rattle.bus_core.specs.declared.Sums.{Sums}
use Rattle.bus_core.specs.declared.Unbalanced.{Unbalanced}
use Rattle.bus_core.specs.Least.{IsBefore, IsLeastUnbalanced, place_cmp, lesser_of}
use Rattle.bus_core.specs.Sums.{Kept, Places, Holds, IsSound, is_place, sum_on, sum_in, sum_at}

-- the two sums there are the same
abbrev pub IsLevel : Kept → ℕ → List ℕ → Type 0
IsLevel kept bus tuple = sum_at Send bus tuple kept ≡ sum_at Receive bus tuple kept

-- the sums there, which differ
pub record IsUneven (kept : Kept) (found : Unbalanced) : Type 0 where
  pub sent : found.sent ≡ sum_at Send found.bus found.tuple kept
  pub received : found.received ≡ sum_at Receive found.bus found.tuple kept
  pub differ : found.sent ≢ found.received

-- the place is level, or not before the one that was found
abbrev pub IsCovered : Kept → Option Unbalanced → ℕ → List ℕ → Type 0
IsCovered kept None bus tuple = IsLevel kept bus tuple
IsCovered kept (Some found) bus tuple = IsBefore bus tuple found.bus found.tuple → IsLevel kept bus tuple

abbrev pub IsFound : Kept → Option Unbalanced → Type 0
IsFound kept None = Unit {0}
IsFound kept (Some found) = IsUneven kept found

-- it covers all places but those that are left
pub record IsLeastBut (kept : Kept) (rest : Places) (least : Option Unbalanced) : Type 0 where
  pub found : IsFound kept least
  pub covers : (bus : ℕ) (tuple : List ℕ) → lookup (is_place bus tuple) rest ≡ None → IsCovered kept least bus tuple

-- the sums of an entry are those of its place
abbrev pub IsEntry : Kept → Place (List ℕ) × Sums → Type 0
IsEntry kept entry = (sum_at Send entry.0.bus entry.0.tuple kept ≡ entry.1.sent) × (sum_at Receive entry.0.bus entry.0.tuple kept ≡ entry.1.received)

pub not_before_itself : (bus : ℕ) (tuple : List ℕ) → IsBefore bus tuple bus tuple → ⊥
not_before_itself bus tuple h =
    let turned = nat_list_cmp_total.antisymm (bus ∷ tuple) (bus ∷ tuple) in
    let same : Less ≡ ordering_reverse Less = sym h ∙ turned ∙ ap ordering_reverse h in
    cc

pub before_both : (bus : ℕ) (tuple : List ℕ) (a b : Unbalanced) → IsBefore bus tuple a.bus a.tuple → IsBefore a.bus a.tuple b.bus b.tuple → IsBefore bus tuple b.bus b.tuple
before_both bus tuple a b h k = nat_list_cmp_total.trans (bus ∷ tuple) (a.bus ∷ a.tuple) (b.bus ∷ b.tuple) h k

pub less_of_test : (o : Ordering) → is_lt o ≡ true → o ≡ Less
less_of_test Less h = refl
less_of_test Equal h = cc
less_of_test Greater h = cc

level_covered : (kept : Kept) (least : Option Unbalanced) (bus : ℕ) (tuple : List ℕ) → IsLevel kept bus tuple → IsCovered kept least bus tuple
level_covered kept None bus tuple h = h
level_covered kept (Some found) bus tuple h = λ before. h

nowhere : (side : Side) (bus : ℕ) (tuple : List ℕ) (short long : Places) → lookup (is_place bus tuple) (short ++ long) ≡ None → sum_in side bus tuple short + sum_in side bus tuple long ≡ 0
nowhere side bus tuple [] long none = omega (arith, ap (λ (o : Option Sums). option_map_or (sum_on side) o 0) none)
nowhere side bus tuple (e ∷ short) long none =
    ⊎_elim
    (λ (is : is_place bus tuple e.0 ≡ true). let found = sym (lookup_head (is_place bus tuple) e (short ++ long) is) ∙ none in cc)
    (λ (other : is_place bus tuple e.0 ≡ false).
    ap (λ (o : Option Sums). option_map_or (sum_on side) o 0 + sum_in side bus tuple long) (lookup_tail (is_place bus tuple) e short other)
    ∙ nowhere side bus tuple short long (sym (lookup_tail (is_place bus tuple) e (short ++ long) other) ∙ none))
    (cases_Bool (is_place bus tuple e.0))

-- at the start: where there is no place, nothing is sent or received
pub least_of_none : (kept : Kept) → IsLeastBut kept (kept.short ++ kept.long) None
least_of_none kept = record {
  found = tt;
  covers = λ bus tuple none. nowhere Send bus tuple kept.short kept.long none ∙ sym (nowhere Receive bus tuple kept.short kept.long none);
}

le_or_lt : (m n : ℕ) → (n ≤ m) ⊎ (m < n)
le_or_lt m zero = inl (omega arith)
le_or_lt zero (suc n) = inr (omega arith)
le_or_lt (suc m) (suc n) = ⊎_elim (λ (h : n ≤ m). inl (omega (arith, h))) (λ (h : m < n). inr (omega (arith, h))) (le_or_lt m n)

-- an entry of short tuples, and one of longer ones
module _ (kept : Kept) (count : ℕ) (sound : IsSound kept.short kept.long count) (entry : Place (List ℕ) × Sums) where
  pub short_entry : lookup (is_place entry.0.bus entry.0.tuple) kept.short ≡ Some entry.1 → IsEntry kept entry
  short_entry at =
      let apart : lookup (is_place entry.0.bus entry.0.tuple) kept.long ≡ None =
      ⊎_elim
      (λ (fits : length entry.0.tuple ≤ 8). sound.no_short entry.0.bus entry.0.tuple fits)
      (λ (exceeds : 8 < length entry.0.tuple). let wrong = sym (sound.no_long entry.0.bus entry.0.tuple exceeds) ∙ at in cc)
      (le_or_lt 8 (length entry.0.tuple)) in (
        omega (arith, ap (λ (o : Option Sums). option_map_or (sum_on Send) o 0) at, ap (λ (o : Option Sums). option_map_or (sum_on Send) o 0) apart),
        omega (arith, ap (λ (o : Option Sums). option_map_or (sum_on Receive) o 0) at, ap (λ (o : Option Sums). option_map_or (sum_on Receive) o 0) apart),
      )

  pub long_entry : lookup (is_place entry.0.bus entry.0.tuple) kept.long ≡ Some entry.1 → IsEntry kept entry
  long_entry at =
      let apart : lookup (is_place entry.0.bus entry.0.tuple) kept.short ≡ None =
      ⊎_elim
      (λ (fits : length entry.0.tuple ≤ 8). let wrong = sym (sound.no_short entry.0.bus entry.0.tuple fits) ∙ at in cc)
      (λ (exceeds : 8 < length entry.0.tuple). sound.no_long entry.0.bus entry.0.tuple exceeds)
      (le_or_lt 8 (length entry.0.tuple)) in (
        omega (arith, ap (λ (o : Option Sums). option_map_or (sum_on Send) o 0) at, ap (λ (o : Option Sums). option_map_or (sum_on Send) o 0) apart),
        omega (arith, ap (λ (o : Option Sums). option_map_or (sum_on Receive) o 0) at, ap (λ (o : Option Sums). option_map_or (sum_on Receive) o 0) apart),
      )

-- the lesser of a place that was found, and one more

module _ (kept : Kept) where
  found_by : (a b : Unbalanced) (t : Bool) → IsUneven kept a → IsUneven kept b → IsUneven kept (cond t b a)
  found_by a b true h k = k
  found_by a b false h k = h

  found_more : (old : Option Unbalanced) (b : Unbalanced) → IsFound kept old → IsUneven kept b → IsUneven kept (lesser_of old b)
  found_more None b h k = k
  found_more (Some a) b h k = found_by a b (is_lt (place_cmp b.bus b.tuple a.bus a.tuple)) h k

  old_by : (bus : ℕ) (tuple : List ℕ) (a b : Unbalanced) (t : Bool) → is_lt (place_cmp b.bus b.tuple a.bus a.tuple) ≡ t
      → IsCovered kept (Some a) bus tuple → IsCovered kept (Some (cond t b a)) bus tuple
  old_by bus tuple a b true e h = λ before. h (before_both bus tuple b a before (less_of_test (place_cmp b.bus b.tuple a.bus a.tuple) e))
  old_by bus tuple a b false e h = h

  -- it covers what the old one did
  old_covered : (bus : ℕ) (tuple : List ℕ) (old : Option Unbalanced) (b : Unbalanced) → IsCovered kept old bus tuple → IsCovered kept (Some (lesser_of old b)) bus tuple
  old_covered bus tuple None b h = λ before. h
  old_covered bus tuple (Some a) b h = old_by bus tuple a b (is_lt (place_cmp b.bus b.tuple a.bus a.tuple)) refl h

  new_by : (a b : Unbalanced) (t : Bool) → is_lt (place_cmp b.bus b.tuple a.bus a.tuple) ≡ t → IsCovered kept (Some (cond t b a)) b.bus b.tuple
  new_by a b true e = λ before. absurd (not_before_itself b.bus b.tuple before)
  new_by a b false e = λ before. let same : false ≡ true = sym e ∙ ap is_lt before in cc

  -- and the place that was added
  new_covered : (old : Option Unbalanced) (b : Unbalanced) → IsCovered kept (Some (lesser_of old b)) b.bus b.tuple
  new_covered None b = λ before. absurd (not_before_itself b.bus b.tuple before)
  new_covered (Some a) b = new_by a b (is_lt (place_cmp b.bus b.tuple a.bus a.tuple)) refl

  -- one entry less is left: where it is, the place is covered, and elsewhere as before
  covers_more : (least : Option Unbalanced) (entry : Place (List ℕ) × Sums) (rest : Places) → IsCovered kept least entry.0.bus entry.0.tuple
      → ((bus : ℕ) (tuple : List ℕ) → lookup (is_place bus tuple) (entry ∷ rest) ≡ None → IsCovered kept least bus tuple)
      → (bus : ℕ) (tuple : List ℕ) → lookup (is_place bus tuple) rest ≡ None → IsCovered kept least bus tuple
  covers_more least entry rest here others bus tuple none =
      ⊎_elim
      (λ (is : is_place bus tuple entry.0 ≡ true).
      let parts = and_parts (nat_eq bus entry.0.bus) (pointwise nat_eq tuple entry.0.tuple) is in
      subst (λ (b : ℕ). IsCovered kept least b tuple) (sym (eqb-true bus entry.0.bus parts.0))
      (subst (λ (t : List ℕ). IsCovered kept least entry.0.bus t) (sym (same_text tuple entry.0.tuple (sym parts.1))) here))
      (λ (other : is_place bus tuple entry.0 ≡ false). others bus tuple (lookup_tail (is_place bus tuple) entry rest other ∙ none))
      (cases_Bool (is_place bus tuple entry.0))

  -- an entry of equal sums
  pub least_past : (entry : Place (List ℕ) × Sums) (rest : Places) (least : Option Unbalanced) → IsEntry kept entry → entry.1.sent ≡ entry.1.received
      → IsLeastBut kept (entry ∷ rest) least → IsLeastBut kept rest least
  least_past entry rest least at same h =
      let sum = at in
      record {
        found = h.found;
        covers = covers_more least entry rest (level_covered kept least entry.0.bus entry.0.tuple (sum.0 ∙ same ∙ sym sum.1)) h.covers;
      }

  -- one of sums that differ
  pub least_more : (entry : Place (List ℕ) × Sums) (rest : Places) (old : Option Unbalanced) → IsEntry kept entry → entry.1.sent ≢ entry.1.received
      → IsLeastBut kept (entry ∷ rest) old → IsLeastBut kept rest (Some (lesser_of old (record { bus = entry.0.bus; tuple = entry.0.tuple; sent = entry.1.sent; received = entry.1.received })))
  least_more entry rest old at differ h =
      let sum = at in
      let b : Unbalanced = record { bus = entry.0.bus; tuple = entry.0.tuple; sent = entry.1.sent; received = entry.1.received } in
      record {
        found = found_more old b h.found (record { sent = sym sum.0; received = sym sum.1; differ = differ });
        covers = covers_more (Some (lesser_of old b)) entry rest (new_covered old b) (λ bus tuple none. old_covered bus tuple old b (h.covers bus tuple none));
      }

-- of the events that a balance holds

even_held : (kept : Kept) (events : List Event) (bus : ℕ) (tuple : List ℕ) → Holds kept events → IsLevel kept bus tuple → IsEven bus tuple events
even_held kept events bus tuple holds level = sym (holds.sums Send bus tuple) ∙ level ∙ holds.sums Receive bus tuple

level_kept : (kept : Kept) (events : List Event) (bus : ℕ) (tuple : List ℕ) → Holds kept events → IsEven bus tuple events → IsLevel kept bus tuple
level_kept kept events bus tuple holds even = holds.sums Send bus tuple ∙ even ∙ sym (holds.sums Receive bus tuple)

pub none_found : (kept : Kept) (least : Option Unbalanced) → IsLeastBut kept [] least → (events : List Event) → Holds kept events → IsNone least ↔ Balanced events
none_found kept None h events holds =
    (λ none. record { even = λ bus tuple. even_held kept events bus tuple holds (h.covers bus tuple refl) }, λ balanced. refl)
none_found kept (Some found) h events holds = (
  λ none. cc,
  λ balanced.
      absurd (h.found.differ (h.found.sent ∙ level_kept kept events found.bus found.tuple holds (balanced.even found.bus found.tuple) ∙ sym h.found.received)),
)

pub least_found : (kept : Kept) (least : Option Unbalanced) → IsLeastBut kept [] least → IfSome least (λ found. (events : List Event) → Holds kept events → IsLeastUnbalanced events found)
least_found kept None h = tt
least_found kept (Some found) h = λ events holds. record {
  unbalanced = record {
    sent = h.found.sent ∙ holds.sums Send found.bus found.tuple;
    received = h.found.received ∙ holds.sums Receive found.bus found.tuple;
    differ = h.found.differ;
  };
  least = λ bus tuple before. even_held kept events bus tuple holds (h.covers bus tuple refl before);
}

pub found_of : (kept : Kept) (least : Option Unbalanced) → IsLeastBut kept [] least → (events : List Event) → Holds kept events → IfSome least (IsLeastUnbalanced events)
found_of kept None h events holds = tt
found_of kept (Some found) h events holds = least_found kept (Some found) h events holds

-- places are equal where their buses and their tuples are
pub place_equiv : IsEquivalence (λ (a b : Place (List ℕ)). is_place a.bus a.tuple b)
place_equiv = and_equiv (on_equiv (λ (p : Place (List ℕ)). p.bus) nat_eq_equiv) (on_equiv (λ (p : Place (List ℕ)). p.tuple) nat_list_eq_equiv)
