use Rattle.std.proofs.Common.{[], ◌∷◌, ◌++◌, rules, subst, sym}
use Rattle.lookup_tables.proofs.PlaceLemmas.{rows_below}
use Rattle.vm_filler.specs.Lookups.{CountLookups}
use Rattle.vm_filler.proofs.CountLemmas.{all_used, not_sent, no_row}
use Rattle.vm_filler.proofs.lookups.Lookups.add.Goals as goal

pub count-requires : goal.count-requires
count-requires c = rows_below c.args.event.now.bus c.in-Some.place c.args.event.now.tuple ((c.count_place.ensures c.in-Some.place).0 c.in-Some.is)

pub returns-in-Some-clause-counted : goal.returns-in-Some-clause-counted
returns-in-Some-clause-counted c = λ events held.
    let row = (c.count_place.ensures c.in-Some.place).0 c.in-Some.is in
    subst (λ s. CountLookups s (events ++ c.args.event.now ∷ [])) (sym c.count.ensures.used) (all_used c.args.self.now events c.args.event.now c.in-Some.place c.count.ensures.sized (search rules) row held)

pub returns-in_default-clause-counted : goal.returns-in_default-clause-counted
returns-in_default-clause-counted c = λ events held. no_row c.args.self.now events c.args.event.now (λ k row. c.in_default.not-Some k ((c.count_place.ensures k).1 row)) held

pub returns-else-eq-clause-counted : goal.returns-else-eq-clause-counted
returns-else-eq-clause-counted c = λ events held. not_sent c.args.self.now events c.args.event.now (λ sent. search (rules, sent)) held
