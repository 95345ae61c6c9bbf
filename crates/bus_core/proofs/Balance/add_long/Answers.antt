use Rattle.std.proofs.Common.{rules, ◌≡◌, Bool, ◌≤◌, ◌+◌, ◌∙◌, ℕ, List, Option, Some, IsSome, cond, unwrap_or, ap, refl, sym, subst, arith}
use Rattle.std.specs.Map.{lookup}
use Rattle.air_core.specs.declared.event.Event.{Event}
use Rattle.air_core.specs.Sheet.{event}
use Rattle.bus_core.specs.declared.Place.{Place}
use Rattle.bus_core.specs.declared.Sums.{Sums}
use Rattle.bus_core.specs.Sums.{Kept, Places, is_place, add_on, room_of, sum_in}
use Rattle.bus_core.proofs.Adding.{no_sums, AddsTo, fits_more, long_sound, long_sound_same, long_held, long_held_same}
use Rattle.bus_core.proofs.Balance.add_long.Goals.{in-Some, in_default+in_ok-insert}
use Rattle.bus_core.proofs.Balance.add_long.Goals as goal

-- sums that stood at an event's place, and the event added to them
abbrev Puts : Places → Event → Places → Type 0
Puts old event new = (sums : Sums) × (sums ≡ unwrap_or (lookup (is_place event.bus event.tuple) old) no_sums) × AddsTo old event sums new

-- at the place that was found, or at one that is new
put : (c : goal.After-self-2-1) → Puts c.self.inside.long.entries (event c.args.place.now.bus c.args.side c.args.count c.args.place.now.tuple) c.match-get_mut.self-inside.long.entries
put c =
    let old = c.self.inside.long.entries in
    let e = event c.args.place.now.bus c.args.side c.args.count c.args.place.now.tuple in
    elim c.match-get_mut.branch [
      | in-Some w ↦
          let value = w.in-Some.ensures.value in
          let is_there = subst (λ (o : Option Sums). IsSome o) value (search rules) in
          let update = ((c.get_mut.follows.holds w.add.new.self).3 is_there).0 in
          rw (w.self-inside-is) (w.in-Some.sums.now, ap (λ (o : Option Sums). unwrap_or o no_sums) value, λ place. update place ∙ ap (λ (s : Sums). cond (is_place e.bus e.tuple place) (Some s) (lookup (is_place place.bus place.tuple) old)) w.add.ensures)
      | in_default+in_ok-insert w ↦
          let value = w.in_default.ensures.value in
          let update = w.in_ok-insert.ensures.updates.0 in
          let here : Place (List ℕ) → Bool = λ place. is_place e.bus e.tuple place in
          rw (w.self-inside-is) (
            no_sums,
            ap (λ (o : Option Sums). unwrap_or o no_sums) value,
            λ place. update place
                ∙ ap (λ (s : Sums). cond (here place) (Some s) (lookup (is_place place.bus place.tuple) c.get_mut.follows.lender-at-none.entries)) w.add-in_default.ensures
                ∙ ap (λ (places : Places). cond (here place) (Some (add_on e.side e.count no_sums)) (lookup (is_place place.bus place.tuple) places)) (ap (λ m. m.entries) c.get_mut.follows.holds-at-none),
          )
    ]

-- and nothing else
keeps : (c : goal.After-self-2-1) → (c.match-get_mut.self-inside.short ≡ c.self.inside.short) × (c.match-get_mut.self-inside.count ≡ c.self.inside.count)
keeps c =
    elim c.match-get_mut.branch [
      | in-Some w ↦ rw (w.self-inside-is) (refl, refl)
      | in_default+in_ok-insert w ↦ rw (w.self-inside-is) (refl, refl)
    ]

pub add-requires : goal.add-requires
add-requires c =
    let room = subst (λ (kept : Kept). 1 ≤ room_of kept) (sym c.self.view_is) c.requires.room in
    let e = event c.args.place.now.bus c.args.side c.args.count c.args.place.now.tuple in
    let read = ap (λ (o : Option Sums). unwrap_or o no_sums) c.in-Some.ensures.value in
    fits_more c.self.inside.long.entries e c.in-Some.sums.now read (sum_in e.side e.bus e.tuple c.self.inside.short.entries) c.self.inside.count (search rules) room (omega (arith, c.self.invariant.bounded e.side e.bus e.tuple))

pub invariant_of-self-2 : goal.invariant_of-self-2
invariant_of-self-2 c =
    let e = event c.args.place.now.bus c.args.side c.args.count c.args.place.now.tuple in
    let p = put c in
    let k = keeps c in
    let more = long_sound c.self.inside.long.entries e p.0 p.1 _ p.2 c.self.inside.short.entries c.self.inside.count c.requires.long (search rules) c.self.invariant in
    rw (k.0, k.1) (long_sound_same more (search rules))

pub returns-clause-ok : goal.returns-clause-ok
returns-clause-ok c =
    let room = subst (λ (kept : Kept). 1 ≤ room_of kept) (sym c.self.view_is) c.requires.room in
    let e = event c.args.place.now.bus c.args.side c.args.count c.args.place.now.tuple in
    let p = put c in
    let k = keeps c in
    let more = long_held c.self.inside.long.entries e p.0 p.1 _ p.2 c.self.inside.short.entries c.self.inside.count room in
    rw (← c.self.view_is, k.0, k.1) (long_held_same more (search rules))
