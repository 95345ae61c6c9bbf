use Rattle.std.proofs.Common.{ℕ, List, Some, ◌/◌, ◌%◌, [], ◌∷◌, bit_xor, ap}
use Rattle.lookup_tables.specs.Places.{XorAt}
use Rattle.lookup_tables.proofs.PlaceLemmas.{some_is, xor_at_below, xor_one_row}
use Rattle.lookup_tables.proofs.xor_at.Goals as goal

pub returns : goal.returns
returns c =
    let place = c.args.place in
    let row : List ℕ = (place / 256) ∷ (place % 256) ∷ bit_xor (place / 256) (place % 256) ∷ [] in
    some_is (XorAt place) row (xor_at_below place c.if-place-ge65536.false) (xor_one_row place) (Some c.of.result) (ap (λ (t : List ℕ). Some t) c.of.ensures)
