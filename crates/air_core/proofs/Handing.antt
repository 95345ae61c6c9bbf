-- Events that are handed over one part behind the other.
use Rattle.std.proofs.Common.{◌≡◌, ℕ, ◌+◌, false, true, nat_eq, List, [], ◌∷◌, ◌++◌, length, take, drop, sym, subst, arith, take-append-drop, refl, ◌≤◌}
use Rattle.std.specs.Prelude.{Result, Ok, Err, OnOk}
use Rattle.air_core.specs.declared.event.Event.{Event}
use Rattle.air_core.specs.Sheet.{counted}
use Rattle.air_core.specs.ListLemmas.{counted-append, counted_length}
use Rattle.air_core.specs.Sink.{Handed, HandedSome, handed_none, handed_both, some_after, some_of_more}

module _ {S : Type 0} {holds : S → List Event → Type 0} {room : S → ℕ} where
  -- all of a part and all of another
  pub all_all : {old mid new : S} (front back : List Event) → Handed holds room old mid (counted front) → Handed holds room mid new (counted back) → Handed holds room old new (counted (front ++ back))
  all_all {old} {mid} {new} front back a b = subst (Handed holds room old new) (sym (counted-append front back)) (handed_both a b)

  -- all of a part and some of another
  pub all_some : {old mid new : S} (front back : List Event) → Handed holds room old mid (counted front) → HandedSome holds room mid new (counted back) → HandedSome holds room old new (counted (front ++ back))
  all_some {old} {mid} {new} front back a b = subst (HandedSome holds room old new) (sym (counted-append front back)) (some_after a b)

  -- some of a part alone
  pub some_none : {old new : S} (front back : List Event) → HandedSome holds room old new (counted front) → HandedSome holds room old new (counted (front ++ back))
  some_none {old} {new} front back a = subst (HandedSome holds room old new) (sym (counted-append front back)) (some_of_more (counted back) a)

  pub room_left : {old new : S} {n k : ℕ} (events : List Event) → Handed holds room old new (counted events) → length events ≤ k → k + n ≤ room old → n ≤ room new
  room_left events h few r = omega (arith, h.used, counted_length events, few, r)

  -- an event that counts
  pub one_counted : {old new : S} (e made : Event) → made ≡ e → nat_eq e.count 0 ≡ false → Handed holds room old new (made ∷ []) → Handed holds room old new (counted (e ∷ []))
  one_counted {old} {new} e made is count h =
      let one : counted (e ∷ []) ≡ e ∷ [] = rw count refl in
      subst (Handed holds room old new) (sym one) (subst (λ (x : Event). Handed holds room old new (x ∷ [])) is h)

  -- and one that doesn't
  pub one_none : (sink : S) (e : Event) → nat_eq e.count 0 ≡ true → Handed holds room sink sink (counted (e ∷ []))
  one_none sink e count =
      let none : counted (e ∷ []) ≡ [] = rw count refl in
      subst (Handed holds room sink sink) (sym none) (handed_none sink)

  -- none of it
  pub some_nothing : {old new : S} (events : List Event) → Handed holds room old new [] → HandedSome holds room old new events
  some_nothing events h = record { first = []; rest = events; are = refl; handed = h }

  -- all of the first n, and some of the one behind them
  pub some_at : {old mid new : S} (n : ℕ) (events : List Event) → Handed holds room old mid (counted (take n events)) → HandedSome holds room mid new (counted (take 1 (drop n events))) → HandedSome holds room old new (counted events)
  some_at {old} {mid} {new} n events a b =
      let rest : take 1 (drop n events) ++ drop 1 (drop n events) ≡ drop n events = take-append-drop 1 (drop n events) in
      let some : HandedSome holds room mid new (counted (drop n events)) = subst (λ xs. HandedSome holds room mid new (counted xs)) rest (some_none (take 1 (drop n events)) (drop 1 (drop n events)) b) in
      subst (λ xs. HandedSome holds room old new (counted xs)) (take-append-drop n events) (all_some (take n events) (drop n events) a some)

pub on_ok_map : {T E P Q : Type 0} (r : Result T E) → (P → Q) → OnOk r P → OnOk r Q
on_ok_map (Ok x) f p = f p
on_ok_map (Err e) f p = tt
