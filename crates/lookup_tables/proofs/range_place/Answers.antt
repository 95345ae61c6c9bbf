use Rattle.std.proofs.Common.{Some, ◌+◌, ◌-◌, ◌^◌, slice_index, refl}
use Rattle.lookup_tables.specs.Places.{RangeAt}
use Rattle.lookup_tables.proofs.PlaceLemmas.{some_is, range_listed, range_one_place}
use Rattle.lookup_tables.proofs.range_place.Goals as goal

pub returns-then-value-pow : goal.returns-then-value-pow
returns-then-value-pow c =
    let xs = c.args.numbers.now in
    let place = 2 ^ slice_index xs 1 - 1 + slice_index xs 0 in
    let has = range_listed xs c.if-numbers-ne2.false c.if-exponent-le16.true (rw c.pow.ensures at c.if-value-pow.true) in
    some_is (λ p. RangeAt p xs) place has (range_one_place xs) (Some (c.pow-then-value-pow.result - 1 + slice_index xs 0)) (rw c.pow-then-value-pow.ensures refl)
