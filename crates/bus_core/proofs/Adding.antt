-- What an event more does to the sums.
use Rattle.std.proofs.Common.{◌≡◌, ℕ, ◌+◌, ◌-◌, ◌*◌, ◌^◌, ◌<◌, ◌≤◌, Bool, true, false, cond, ◌&&◌, nat_eq, List, [], ◌∷◌, length, Option, Some, None, unwrap_or, refl, sym, ◌∙◌, ap, subst, arith, length-append}
use Rattle.std.specs.Cmp.Lexicographic.{pointwise, same_text}
use Rattle.std.specs.Map.{lookup}
use Rattle.std.specs.Option.{option_map_or}
use Rattle.std.proofs.lemmas.Bool.{and_parts, eqb-true}
use Rattle.air_core.specs.declared.event.Event.{Event}
use Rattle.air_core.specs.declared.event.Side.{Side}
use Rattle.air_core.specs.declared.event.Side.TheVariants.{Send, Receive}
use Rattle.air_core.specs.Balance.{same_side, is_at, amount_at}
use Rattle.air_core.specs.Sink.{Handed}
use Rattle.air_core.proofs.BalanceLemmas.{total-append, total-cons}
use Rattle.bus_core.specs.declared.Place.{Place}
use Rattle.bus_core.specs.declared.Sums.{Sums}
use Rattle.bus_core.specs.Sums.{Kept, Places, Holds, IsSound, is_place, sum_on, add_on, sum_in, room_of}

abbrev pub no_sums : Sums
no_sums = record { sent = 0; received = 0 }

sum_of_found : (side : Side) (found : Option Sums) → option_map_or (sum_on side) found 0 ≡ sum_on side (unwrap_or found no_sums)
sum_of_found Send None = refl
sum_of_found Receive None = refl
sum_of_found Send (Some sums) = refl
sum_of_found Receive (Some sums) = refl

added : (side own : Side) (count : ℕ) (sums : Sums) → sum_on side (add_on own count sums) ≡ sum_on side sums + cond (same_side own side) count 0
added Send Send count sums = refl
added Receive Receive count sums = refl
added Send Receive count sums = omega arith
added Receive Send count sums = omega arith

amount_by : (bus side tuple : Bool) (count : ℕ) → cond (bus && (side && tuple)) count 0 ≡ cond (bus && tuple) (cond side count 0) 0
amount_by true true true count = refl
amount_by true true false count = refl
amount_by true false true count = refl
amount_by true false false count = refl
amount_by false side tuple count = refl

pub read_at : {sums : Sums} {found at : Option Sums} → sums ≡ unwrap_or found no_sums → found ≡ at → sums ≡ unwrap_or at no_sums
read_at read find = read ∙ ap (λ (o : Option Sums). unwrap_or o no_sums) find

amount_small : (count : ℕ) (there : Bool) → count < 2 ^ 32 → cond there count 0 < 2 ^ 32
amount_small count true small = small
amount_small count false small = omega arith

-- the event with a tuple
abbrev pub with_tuple : Event → List ℕ → Event
with_tuple event tuple = record { bus = event.bus; side = event.side; tuple = tuple; count = event.count }

-- what the lookups of a list of sums are, with this event added to the sums that it had there
abbrev pub AddsTo : Places → Event → Sums → Places → Type 0
AddsTo old event sums new =
    (place : Place (List ℕ)) → lookup (is_place place.bus place.tuple) new ≡ cond (is_place event.bus event.tuple place) (Some (add_on event.side event.count sums)) (lookup (is_place place.bus place.tuple) old)

-- the sums that are kept at the place of an event
module _ (old : Places) (event : Event) (sums : Sums) (read : sums ≡ unwrap_or (lookup (is_place event.bus event.tuple) old) no_sums) where
  sum_read : (side : Side) → sum_on side sums ≡ sum_in side event.bus event.tuple old
  sum_read side = ap (sum_on side) read ∙ sym (sum_of_found side (lookup (is_place event.bus event.tuple) old))

  -- no sum reaches 2 ^ 128
  pub fits_more : (more count : ℕ) → event.count < 2 ^ 32 → 1 ≤ 2 ^ 96 - count → sum_in event.side event.bus event.tuple old + more ≤ count * 2 ^ 32 → sum_on event.side sums + event.count < 2 ^ 128
  fits_more more count small room bounded = omega (arith, sum_read event.side, bounded, small, room)

  -- with the event added to them
  module _ (new : Places) (update : AddsTo old event sums new) where
    sum_by : (side : Side) (bus : ℕ) (tuple : List ℕ) (here : Bool) → is_place event.bus event.tuple (record { bus = bus; tuple = tuple }) ≡ here
        → option_map_or (sum_on side) (cond here (Some (add_on event.side event.count sums)) (lookup (is_place bus tuple) old)) 0
        ≡ sum_in side bus tuple old + cond here (cond (same_side event.side side) event.count 0) 0
    sum_by side bus tuple true is =
        let parts = and_parts (nat_eq event.bus bus) (pointwise nat_eq event.tuple tuple) is in
        let before = sum_read side
        ∙ ap (λ (b : ℕ). sum_in side b event.tuple old) (eqb-true event.bus bus parts.0)
        ∙ ap (λ (t : List ℕ). sum_in side bus t old) (same_text event.tuple tuple (sym parts.1)) in
        omega (arith, added side event.side event.count sums, before)
    sum_by side bus tuple false is = omega arith

    -- each sum is more by what the event adds there
    sum_more : (side : Side) (bus : ℕ) (tuple : List ℕ) → sum_in side bus tuple new ≡ sum_in side bus tuple old + amount_at side bus tuple event
    sum_more side bus tuple =
        let place : Place (List ℕ) = record { bus = bus; tuple = tuple } in
        ap (λ (o : Option Sums). option_map_or (sum_on side) o 0) (update place)
        ∙ sum_by side bus tuple (is_place event.bus event.tuple place) refl
        ∙ ap (λ (n : ℕ). sum_in side bus tuple old + n) (sym (amount_by (nat_eq event.bus bus) (same_side event.side side) (pointwise nat_eq event.tuple tuple) event.count))

    none_by : (bus : ℕ) (tuple : List ℕ) (here : Bool) → is_place event.bus event.tuple (record { bus = bus; tuple = tuple }) ≡ here → (event.tuple ≡ tuple → ⊥)
        → cond here (Some (add_on event.side event.count sums)) (lookup (is_place bus tuple) old) ≡ lookup (is_place bus tuple) old
    none_by bus tuple true is other =
        absurd (other (same_text event.tuple tuple (sym (and_parts (nat_eq event.bus bus) (pointwise nat_eq event.tuple tuple) is).1)))
    none_by bus tuple false is other = refl

    -- another tuple is found as before
    others : (bus : ℕ) (tuple : List ℕ) → (event.tuple ≡ tuple → ⊥) → lookup (is_place bus tuple) new ≡ lookup (is_place bus tuple) old
    others bus tuple other =
        update (record { bus = bus; tuple = tuple }) ∙ none_by bus tuple (is_place event.bus event.tuple (record { bus = bus; tuple = tuple })) refl other

    -- a short tuple
    module _ (long : Places) (count : ℕ) where
      pub short_sound : length event.tuple ≤ 8 → event.count < 2 ^ 32 → IsSound old long count → IsSound new long (count + 1)
      short_sound fits small before = record {
        bounded = λ side bus tuple. omega (arith, sum_more side bus tuple, before.bounded side bus tuple, amount_small event.count (is_at side bus tuple event) small);
        no_long = λ bus tuple is_long. others bus tuple (λ same. omega (arith, ap length same, fits, is_long)) ∙ before.no_long bus tuple is_long;
        no_short = before.no_short;
      }

      pub short_held : 1 ≤ 2 ^ 96 - count → Handed Holds room_of (record { short = old; long = long; count = count }) (record { short = new; long = long; count = count + 1 }) (event ∷ [])
      short_held room = record {
        lists = λ list holds. record {
          sums = λ side bus tuple. omega (arith, sum_more side bus tuple, holds.sums side bus tuple, total-append side bus tuple list (event ∷ []), total-cons side bus tuple event []);
          count = omega (arith, holds.count, length-append list (event ∷ []));
        };
        used = omega (arith, room);
      }

    -- a longer one
    module _ (short : Places) (count : ℕ) where
      pub long_sound : 8 < length event.tuple → event.count < 2 ^ 32 → IsSound short old count → IsSound short new (count + 1)
      long_sound exceeds small before = record {
        bounded = λ side bus tuple. omega (arith, sum_more side bus tuple, before.bounded side bus tuple, amount_small event.count (is_at side bus tuple event) small);
        no_long = before.no_long;
        no_short = λ bus tuple is_short. others bus tuple (λ same. omega (arith, ap length same, exceeds, is_short)) ∙ before.no_short bus tuple is_short;
      }

      pub long_held : 1 ≤ 2 ^ 96 - count → Handed Holds room_of (record { short = short; long = old; count = count }) (record { short = short; long = new; count = count + 1 }) (event ∷ [])
      long_held room = record {
        lists = λ list holds. record {
          sums = λ side bus tuple. omega (arith, sum_more side bus tuple, holds.sums side bus tuple, total-append side bus tuple list (event ∷ []), total-cons side bus tuple event []);
          count = omega (arith, holds.count, length-append list (event ∷ []));
        };
        used = omega (arith, room);
      }

pub short_sound_same : {old new long : Places} {count : ℕ} → IsSound old long count → old ≡ new → IsSound new long count
short_sound_same {long = long} {count = count} h same = subst (λ (es : Places). IsSound es long count) same h

pub long_sound_same : {short old new : Places} {count : ℕ} → IsSound short old count → old ≡ new → IsSound short new count
long_sound_same {short} {count = count} h same = subst (λ (es : Places). IsSound short es count) same h

pub short_held_same : {kept : Kept} {old new long : Places} {count : ℕ} {events : List Event} → Handed Holds room_of kept (record { short = old; long = long; count = count }) events → old ≡ new → Handed Holds room_of kept (record { short = new; long = long; count = count }) events
short_held_same {kept} {long = long} {count = count} {events = events} h same = subst (λ (es : Places). Handed Holds room_of kept (record { short = es; long = long; count = count }) events) same h

pub long_held_same : {kept : Kept} {short old new : Places} {count : ℕ} {events : List Event} → Handed Holds room_of kept (record { short = short; long = old; count = count }) events → old ≡ new → Handed Holds room_of kept (record { short = short; long = new; count = count }) events
long_held_same {kept} {short} {count = count} {events = events} h same = subst (λ (es : Places). Handed Holds room_of kept (record { short = short; long = es; count = count }) events) same h

pub handed_as : {kept new : Kept} (event : Event) (tuple : List ℕ) → tuple ≡ event.tuple → Handed Holds room_of kept new (with_tuple event tuple ∷ []) → Handed Holds room_of kept new (event ∷ [])
handed_as {kept} {new} event tuple same h = subst (λ (t : List ℕ). Handed Holds room_of kept new (with_tuple event t ∷ [])) same h
