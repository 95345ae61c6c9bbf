use Rattle.std.proofs.Common.{[], ◌∷◌, ◌++◌, rules, subst, sym}
use Rattle.air_core.specs.Sheet.{event}
use Rattle.lookup_tables.proofs.PlaceLemmas.{rows_below}
use Rattle.vm_filler.specs.Lookups.{CountLookups}
use Rattle.vm_filler.proofs.CountLemmas.{all_used, not_sent, no_row}
use Rattle.vm_filler.proofs.lookups.Lookups.add_parts.Goals as goal

pub count-requires : goal.count-requires
count-requires c = rows_below c.args.bus c.in-Some.place c.args.numbers.now ((c.place_of_elements.ensures c.in-Some.place).0 c.in-Some.is)

pub returns-in-Some-clause-counted : goal.returns-in-Some-clause-counted
returns-in-Some-clause-counted c = λ events held.
    let row = (c.place_of_elements.ensures c.in-Some.place).0 c.in-Some.is in
    subst (λ s. CountLookups s (events ++ (event c.args.bus c.args.side c.args.count c.args.numbers.now) ∷ [])) (sym c.count.ensures.used) (all_used c.args.self.now events (event c.args.bus c.args.side c.args.count c.args.numbers.now) c.in-Some.place c.count.ensures.sized (search rules) row held)

pub returns-in_default-clause-counted : goal.returns-in_default-clause-counted
returns-in_default-clause-counted c = λ events held. no_row c.args.self.now events (event c.args.bus c.args.side c.args.count c.args.numbers.now) (λ k row. c.in_default.not-Some k ((c.place_of_elements.ensures k).1 row)) held

pub returns-else-eq-clause-counted : goal.returns-else-eq-clause-counted
returns-else-eq-clause-counted c = λ events held. not_sent c.args.self.now events (event c.args.bus c.args.side c.args.count c.args.numbers.now) (λ sent. search (rules, sent)) held
