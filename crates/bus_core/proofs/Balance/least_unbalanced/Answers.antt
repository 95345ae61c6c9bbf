use Rattle.std.proofs.Common.{◌++◌, None, Bor, subst, sym, ap, ◌∙◌}
use Rattle.std.specs.Map.Iter.{deref_pair}
use Rattle.std.proofs.lemmas.Map.Iter.{hash_map_turn, rest_more}
use Rattle.bus_core.specs.declared.Place.{Place}
use Rattle.bus_core.specs.declared.Sums.{Sums}
use Rattle.bus_core.specs.Sums.{Kept, Places}
use Rattle.bus_core.proofs.Leasts.{IsLeastBut, IsEntry, short_entry, long_entry, least_of_none, least_past, least_more, none_found, least_found, found_of, place_equiv}
use Rattle.bus_core.proofs.LeastOf.{is_least_uneven}
use Rattle.bus_core.proofs.Balance.least_unbalanced.Goals as goal

pub loop-place-init : goal.loop-place-init
loop-place-init c =
    subst (λ (rest : Places). IsLeastBut c.args.self.now (rest ++ c.args.self.now.long) None)
    (ap (λ (k : Kept). k.short) (sym c.self.view_is) ∙ sym c.into_iter-place-iterator.ensures.into_iter_gives.0)
    (least_of_none c.args.self.now)

pub loop-place-preserved-then-differ : goal.loop-place-preserved-then-differ
loop-place-preserved-then-differ c =
    let x : Bor (Place _) × Bor Sums = (c.in-Some.place, c.in-Some.sums) in
    let gives = c.into_iter-place-iterator.ensures.into_iter_gives in
    let at = (hash_map_turn deref_pair c.loop-place.yielded c.into_iter-place-iterator.result c.loop-place.place-iterator c.next.new.self c.next.result x c.loop-place.yielded_by c.in-Some.is c.next.ensures.steps place_equiv c.self.inside.short gives.0 gives.4).1 in
    let left = rest_more deref_pair c.loop-place.place-iterator c.next.new.self c.next.result x c.in-Some.is c.next.ensures.steps in
    let entry = subst (λ (k : Kept). IsEntry k (deref_pair x)) c.self.view_is (short_entry (record { short = c.self.inside.short.entries; long = c.self.inside.long.entries; count = c.self.inside.count }) c.self.inside.count c.self.invariant (deref_pair x) at) in
    rw (c.lesser.ensures, c.at.ensures, c.tuple.ensures)
    (least_more c.args.self.now (deref_pair x) (c.next.new.self ++ c.args.self.now.long) c.loop-place.least entry (c.differ.ensures.differ c.if-differ.true)
    (subst (λ (rest : Places). IsLeastBut c.args.self.now (rest ++ c.args.self.now.long) c.loop-place.least) left c.loop-place.invariant))

pub loop-place-preserved : goal.loop-place-preserved
loop-place-preserved c =
    let x : Bor (Place _) × Bor Sums = (c.in-Some.place, c.in-Some.sums) in
    let gives = c.into_iter-place-iterator.ensures.into_iter_gives in
    let at = (hash_map_turn deref_pair c.loop-place.yielded c.into_iter-place-iterator.result c.loop-place.place-iterator c.next.new.self c.next.result x c.loop-place.yielded_by c.in-Some.is c.next.ensures.steps place_equiv c.self.inside.short gives.0 gives.4).1 in
    let left = rest_more deref_pair c.loop-place.place-iterator c.next.new.self c.next.result x c.in-Some.is c.next.ensures.steps in
    let entry = subst (λ (k : Kept). IsEntry k (deref_pair x)) c.self.view_is (short_entry (record { short = c.self.inside.short.entries; long = c.self.inside.long.entries; count = c.self.inside.count }) c.self.inside.count c.self.invariant (deref_pair x) at) in
    least_past c.args.self.now (deref_pair x) (c.next.new.self ++ c.args.self.now.long) c.loop-place.least entry (c.differ.ensures.same c.if-differ.false)
    (subst (λ (rest : Places). IsLeastBut c.args.self.now (rest ++ c.args.self.now.long) c.loop-place.least) left c.loop-place.invariant)

pub loop-place-2-preserved-then-differ-2 : goal.loop-place-2-preserved-then-differ-2
loop-place-2-preserved-then-differ-2 c =
    let x : Bor (Place _) × Bor Sums = (c.in-Some-2.place, c.in-Some-2.sums) in
    let gives = c.into_iter-place-iterator-2.ensures.into_iter_gives in
    let at = (hash_map_turn deref_pair c.loop-place-2.yielded c.into_iter-place-iterator-2.result c.loop-place-2.place-iterator c.next-in-loop-place-2.new.self c.next-in-loop-place-2.result x c.loop-place-2.yielded_by c.in-Some-2.is c.next-in-loop-place-2.ensures.steps place_equiv c.self.inside.long gives.0 gives.4).1 in
    let left = rest_more deref_pair c.loop-place-2.place-iterator c.next-in-loop-place-2.new.self c.next-in-loop-place-2.result x c.in-Some-2.is c.next-in-loop-place-2.ensures.steps in
    let entry = subst (λ (k : Kept). IsEntry k (deref_pair x)) c.self.view_is (long_entry (record { short = c.self.inside.short.entries; long = c.self.inside.long.entries; count = c.self.inside.count }) c.self.inside.count c.self.invariant (deref_pair x) at) in
    rw (c.lesser-then-differ-2.ensures, c.at-then-differ-2.ensures)
    (least_more c.args.self.now (deref_pair x) c.next-in-loop-place-2.new.self c.loop-place-2.least entry (c.differ-in-loop-place-2.ensures.differ c.if-differ-2.true)
    (subst (λ (rest : Places). IsLeastBut c.args.self.now rest c.loop-place-2.least) left c.loop-place-2.invariant))

pub loop-place-2-preserved : goal.loop-place-2-preserved
loop-place-2-preserved c =
    let x : Bor (Place _) × Bor Sums = (c.in-Some-2.place, c.in-Some-2.sums) in
    let gives = c.into_iter-place-iterator-2.ensures.into_iter_gives in
    let at = (hash_map_turn deref_pair c.loop-place-2.yielded c.into_iter-place-iterator-2.result c.loop-place-2.place-iterator c.next-in-loop-place-2.new.self c.next-in-loop-place-2.result x c.loop-place-2.yielded_by c.in-Some-2.is c.next-in-loop-place-2.ensures.steps place_equiv c.self.inside.long gives.0 gives.4).1 in
    let left = rest_more deref_pair c.loop-place-2.place-iterator c.next-in-loop-place-2.new.self c.next-in-loop-place-2.result x c.in-Some-2.is c.next-in-loop-place-2.ensures.steps in
    let entry = subst (λ (k : Kept). IsEntry k (deref_pair x)) c.self.view_is (long_entry (record { short = c.self.inside.short.entries; long = c.self.inside.long.entries; count = c.self.inside.count }) c.self.inside.count c.self.invariant (deref_pair x) at) in
    least_past c.args.self.now (deref_pair x) c.next-in-loop-place-2.new.self c.loop-place-2.least entry (c.differ-in-loop-place-2.ensures.same c.if-differ-2.false)
    (subst (λ (rest : Places). IsLeastBut c.args.self.now rest c.loop-place-2.least) left c.loop-place-2.invariant)

pub returns-clause-balanced : goal.returns-clause-balanced
returns-clause-balanced c =
    none_found c.args.self.now c.loop-place-2.least
    (subst (λ (rest : Places). IsLeastBut c.args.self.now rest c.loop-place-2.least) c.in-None-2.ensures.steps.0 c.loop-place-2.invariant)

pub returns-clause-least : goal.returns-clause-least
returns-clause-least c =
    least_found c.args.self.now c.loop-place-2.least
    (subst (λ (rest : Places). IsLeastBut c.args.self.now rest c.loop-place-2.least) c.in-None-2.ensures.steps.0 c.loop-place-2.invariant)

pub returns-clause-is : goal.returns-clause-is
returns-clause-is c = λ events holds.
    let least = subst (λ (rest : Places). IsLeastBut c.args.self.now rest c.loop-place-2.least) c.in-None-2.ensures.steps.0 c.loop-place-2.invariant in
    is_least_uneven events c.loop-place-2.least (none_found c.args.self.now c.loop-place-2.least least events holds) (found_of c.args.self.now c.loop-place-2.least least events holds)
