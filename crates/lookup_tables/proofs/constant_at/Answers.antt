use Rattle.std.proofs.Common.{◌≡◌, ℕ, List, Some, ◌/◌, ◌%◌, [], ◌∷◌, ap}
use Rattle.sha_words.specs.Sha256.{round_constant}
use Rattle.lookup_tables.specs.Places.{ConstantAt}
use Rattle.lookup_tables.proofs.PlaceLemmas.{some_is, constant_row, constant_one_row}
use Rattle.lookup_tables.proofs.constant_at.Goals as goal

pub returns : goal.returns
returns c =
    let place = c.args.place in
    let row : List ℕ = place ∷ round_constant place % 65536 ∷ round_constant place / 65536 ∷ [] in
    let is : c.of.result ≡ row = rw c.round_constant-constant.ensures at c.of.ensures in
    some_is (ConstantAt place) row (constant_row place c.if-place-ge64.false) (constant_one_row place) (Some c.of.result) (ap (λ (t : List ℕ). Some t) is)
