use Rattle.std.proofs.Common.{Some, ◌+◌, ◌*◌, slice_index, refl}
use Rattle.lookup_tables.specs.Places.{XorAt}
use Rattle.lookup_tables.proofs.PlaceLemmas.{some_is, xor_listed, xor_one_place}
use Rattle.lookup_tables.proofs.xor_place.Goals as goal

pub returns-then-xor-x : goal.returns-then-xor-x
returns-then-xor-x c =
    let xs = c.args.numbers.now in
    let place = 256 * slice_index xs 0 + slice_index xs 1 in
    some_is (λ p. XorAt p xs) place (xor_listed xs c.if-numbers-ne3.false c.if-x-lt256.true c.if-y-lt256.true c.if-xor-x.true) (xor_one_place xs) (Some place) refl
