use Rattle.std.proofs.Common.{rules, ◌≤◌, subst, sym}
use Rattle.air_core.specs.Sheet.{event}
use Rattle.bus_core.specs.Sums.{Kept, room_of, sum_in}
use Rattle.bus_core.proofs.Adding.{read_at, fits_more, short_sound, short_sound_same, short_held, short_held_same}
use Rattle.bus_core.proofs.Balance.add_short.Goals as goal

pub add-requires : goal.add-requires
add-requires c =
    let room = subst (λ (kept : Kept). 1 ≤ room_of kept) (sym c.self.view_is) c.requires.room in
    let e = event c.args.bus c.args.side c.args.count c.args.tuple in
    let read = read_at c.or_insert-sums.ensures.value c.in_ok-self-inside.ensures.value in
    fits_more c.self.inside.short.entries e c.or_insert-sums.result.now read (sum_in e.side e.bus e.tuple c.self.inside.long.entries) c.self.inside.count (search rules) room (c.self.invariant.bounded e.side e.bus e.tuple)

pub invariant_of-self-2 : goal.invariant_of-self-2
invariant_of-self-2 c =
    let e = event c.args.bus c.args.side c.args.count c.args.tuple in
    let read = read_at c.or_insert-sums.ensures.value c.in_ok-self-inside.ensures.value in
    let more = short_sound c.self.inside.short.entries e c.or_insert-sums.result.now read _ (λ place. (c.in_ok-self-inside.ensures.update.0 _).0 place) c.self.inside.long.entries c.self.inside.count c.requires.short (search rules) c.self.invariant in
    short_sound_same more (search rules)

pub returns-clause-ok : goal.returns-clause-ok
returns-clause-ok c =
    let room = subst (λ (kept : Kept). 1 ≤ room_of kept) (sym c.self.view_is) c.requires.room in
    let e = event c.args.bus c.args.side c.args.count c.args.tuple in
    let read = read_at c.or_insert-sums.ensures.value c.in_ok-self-inside.ensures.value in
    let more = short_held c.self.inside.short.entries e c.or_insert-sums.result.now read _ (λ place. (c.in_ok-self-inside.ensures.update.0 _).0 place) c.self.inside.long.entries c.self.inside.count room in
    rw (← c.self.view_is) (short_held_same more (search rules))
