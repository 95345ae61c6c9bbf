use Rattle.std.proofs.Common.{◌≡◌, ℕ, Some, List, [], ◌∷◌, ap, subst, ◌∙◌}
use Rattle.std.specs.Prelude.{◌↔◌}
use Rattle.lookup_tables.specs.Places.{RangeAt}
use Rattle.lookup_tables.proofs.Listed.{two_listed}
use Rattle.lookup_tables.proofs.place_of_two.Goals as goal

pub returns : goal.returns
returns c = λ place.
    let made : ℕ → ℕ → List ℕ = λ x y. x ∷ y ∷ [] in
    let values = ap (λ x. made x c.value-2.result) c.value.ensures.number ∙ ap (made c.index-elements-0.result) c.value-2.ensures.number in
    let same = two_listed c.args.elements.now c.index-elements-0.result c.index-elements-1.result c.if-elements-ne2.false c.index-elements-0.is c.index-elements-1.is in
    subst (λ xs. (c.range_place.result ≡ Some place) ↔ RangeAt place xs) (values ∙ same) (c.range_place.ensures place)
