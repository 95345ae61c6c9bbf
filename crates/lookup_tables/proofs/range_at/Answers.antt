use Rattle.std.proofs.Common.{◌≡◌, ℕ, List, Some, ◌+◌, ◌-◌, ◌^◌, [], ◌∷◌, ap}
use Rattle.lookup_tables.specs.Places.{RangeAt}
use Rattle.lookup_tables.proofs.PlaceLemmas.{some_is, range_at_below, range_one_row}
use Rattle.lookup_tables.proofs.range_at.Goals as goal

pub returns : goal.returns
returns c =
    let place = c.args.place in
    let n = c.ilog2-exponent.result in
    let row : List ℕ = (place + 1 - 2 ^ n) ∷ n ∷ [] in
    let has = range_at_below place n c.if-place-ge131071.false c.ilog2-exponent.ensures.power_le c.ilog2-exponent.ensures.next_power_gt in
    let is : c.of.result ≡ row = rw c.pow.ensures at c.of.ensures in
    some_is (RangeAt place) row has (range_one_row place) (Some c.of.result) (ap (λ (t : List ℕ). Some t) is)
