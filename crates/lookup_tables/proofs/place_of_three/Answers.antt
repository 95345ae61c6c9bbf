use Rattle.std.proofs.Common.{◌≡◌, ℕ, Some, List, [], ◌∷◌, ap, subst, ◌∙◌}
use Rattle.std.specs.Prelude.{◌↔◌}
use Rattle.lookup_tables.specs.Places.{XorAt}
use Rattle.lookup_tables.proofs.Listed.{three_listed}
use Rattle.lookup_tables.proofs.place_of_three.Goals as goal

pub returns : goal.returns
returns c = λ place.
    let made : ℕ → ℕ → ℕ → List ℕ = λ x y z. x ∷ y ∷ z ∷ [] in
    let values = ap (λ x. made x c.value-2.result c.value-3.result) c.value.ensures.number ∙ ap (λ y. made c.index-elements-0.result y c.value-3.result) c.value-2.ensures.number ∙ ap (made c.index-elements-0.result c.index-elements-1.result) c.value-3.ensures.number in
    let same = three_listed c.args.elements.now c.index-elements-0.result c.index-elements-1.result c.index-elements-2.result c.if-elements-ne3.false c.index-elements-0.is c.index-elements-1.is c.index-elements-2.is in
    subst (λ xs. (c.xor_place.result ≡ Some place) ↔ XorAt place xs) (values ∙ same) (c.xor_place.ensures place)
