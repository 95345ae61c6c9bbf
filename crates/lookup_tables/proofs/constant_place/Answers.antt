use Rattle.std.proofs.Common.{◌≡◌, List, ℕ, Some, None, refl, sym, ◌∙◌}
use Rattle.lookup_tables.specs.Places.{ConstantAt}
use Rattle.lookup_tables.proofs.PlaceLemmas.{none_is, no_constant, lists_differ}
use Rattle.lookup_tables.proofs.constant_place.Goals as goal

pub returns-in_err-row : goal.returns-in_err-row
returns-in_err-row c =
    let xs : List ℕ = c.args.tuple.now in
    let never = no_constant xs c.in_ok-round.round c.constant_at.result (sym c.at.ensures ∙ c.in_ok-round.was) c.constant_at.ensures
    (λ e. absurd (let n : None ≡ Some xs = sym c.in_err-row.was ∙ e in cc)) in
    none_is (λ place. ConstantAt place xs) never c.from_residual-in_err-row.result c.from_residual-in_err-row.ensures

pub returns-else-eq : goal.returns-else-eq
returns-else-eq c =
    let xs : List ℕ = c.args.tuple.now in
    let row : List ℕ = c.in_ok-row.row in
    let never = no_constant xs c.in_ok-round.round c.constant_at.result (sym c.at.ensures ∙ c.in_ok-round.was) c.constant_at.ensures
    (λ e. lists_differ row xs (sym c.eq.ensures ∙ c.if-eq.false) (let s : Some row ≡ Some xs = sym c.in_ok-row.was ∙ e in cc)) in
    none_is (λ place. ConstantAt place xs) never None refl
