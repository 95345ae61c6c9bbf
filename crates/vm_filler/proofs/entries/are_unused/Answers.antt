use Rattle.std.proofs.Common.{◌≡◌, ℕ, List, [], ◌∷◌, take, slice_index, nat_eq, sym, subst, arith}
use Rattle.std.specs.List.{AllByRecursion}
use Rattle.std.proofs.lemmas.Bool.{and_parts, eqb-true}
use Rattle.std.proofs.lemmas.List.{take_all, take_more}
use Rattle.air_core.specs.ListLemmas.{all_append}
use Rattle.vm_filler.proofs.entries.are_unused.Goals as goal

pub loop-place-init : goal.loop-place-init
loop-place-init c = λ unused. tt

pub loop-place-preserved : goal.loop-place-preserved
loop-place-preserved c = λ unused.
    let counts = c.args.counts.now in
    let place = c.loop-place.place in
    let parts = and_parts c.loop-place.unused (nat_eq (slice_index counts place) 0) unused in
    subst (λ (xs : List ℕ). AllByRecursion (λ count. count ≡ 0) xs) (sym (take_more counts place 0 c.loop-place-test.true))
    (all_append (λ count. count ≡ 0) (take place counts) (slice_index counts place ∷ []) (c.loop-place.invariant parts.0) (eqb-true (slice_index counts place) 0 parts.1, tt))

pub returns : goal.returns
returns c = λ unused. subst (λ (xs : List ℕ). AllByRecursion (λ count. count ≡ 0) xs) (take_all c.loop-place.place c.args.counts.now (omega (arith, c.loop-place-test.false))) (c.loop-place.invariant unused)
