use Rattle.std.proofs.Common.{◌≡◌, ℕ, ◌+◌, List, [], ◌∷◌, ◌++◌, length, refl, sym, ap, ◌∙◌, arith}
use Rattle.vm_field.specs.declared.limbs.Limbs.{Limbs}
use Rattle.vm_field.specs.Limbs.{list_of}
use Rattle.air_core.specs.First.{first_from, or_else}
use Rattle.air_core.specs.Ring.{field}
use Rattle.air_core.proofs.FirstLemmas.{first_from-part}
use Rattle.gadget_limbs.specs.Less.{less_constraints, marks_sum, equal_above, marked_differs, differences}
use Rattle.gadget_limbs.specs.OrderLaws.{digits_of}
use Rattle.gadget_limbs.specs.Sign.{negative_constraints, same_constraints}
use Rattle.gadget_limbs.specs.Sum.{sum_constraints}
use Rattle.gadget_divide.specs.Divided.{divided_of, order_of, signs_differ, not_below, result_constraints}
use Rattle.gadget_divide.proofs.constraints.results_broken.Goals as goal

length-negative : (g : ℕ) (x y : Limbs ℕ) → length (negative_constraints field g (list_of x) (list_of y)) ≡ 8
unfolding negative_constraints same_constraints sum_constraints list_of
length-negative g x y = refl

length-less : (own : List ℕ) → (let c = divided_of field own in length (less_constraints field (digits_of c.remainder) (digits_of c.divisor) (order_of field c)) ≡ 17)
unfolding less_constraints divided_of marks_sum equal_above marked_differs differences
length-less own = refl

pub returns : goal.returns
unfolding result_constraints list_of
returns c =
    let from = c.args.from in
    let d = divided_of field c.args.own.now in
    let differ = signs_differ field d.left_sign d.right_sign in
    let quotient = negative_constraints field differ (list_of d.quotient) (list_of d.signed_quotient) in
    let remainder = negative_constraints field d.left_sign (list_of d.remainder) (list_of d.signed_remainder) in
    let less = less_constraints field (digits_of d.remainder) (digits_of d.divisor) (order_of field d) in
    let below : List ℕ = not_below field c.args.valid d.by_zero (order_of field d).less ∷ [] in
    rw (
      c.first-2.ensures,
      c.first.ensures,
      c.first-order.ensures,
      c.negative_broken-quotient.ensures,
      c.negative_broken-remainder.ensures,
      c.less_broken-less.ensures,
      c.first_nonzero.ensures,
      c.signs_differ-differ.ensures,
      c.not_below-below.ensures,
      c.answer.ensures,
      c.array-rest.ensures,
      c.array-divisor.ensures,
      c.read-c.ensures.by_zero,
      c.read-c.ensures.left_sign,
      c.read-c.ensures.right_sign,
      c.read-c.ensures.divisor,
      c.read-c.ensures.quotient,
      c.read-c.ensures.remainder,
      c.read-c.ensures.signed_quotient,
      c.read-c.ensures.signed_remainder,
      c.read-c.ensures.less,
    )
    (sym (first_from-part from (from + 8) quotient (remainder ++ (less ++ below)) (omega (arith, length-negative differ d.quotient d.signed_quotient))
    ∙ ap (or_else (first_from from quotient)) (first_from-part (from + 8) (from + 16) remainder (less ++ below) (omega (arith, length-negative d.left_sign d.remainder d.signed_remainder))
    ∙ ap (or_else (first_from (from + 8) remainder)) (first_from-part (from + 16) (from + 33) less below (omega (arith, length-less c.args.own.now))))))
