use Rattle.std.proofs.Common.{◌≡◌, ℕ, ◌+◌, ◌++◌, length, refl, sym, ap, ◌∙◌, arith}
use Rattle.vm_field.specs.declared.limbs.Limbs.{Limbs}
use Rattle.vm_field.specs.Limbs.{list_of}
use Rattle.air_core.specs.First.{first_from, or_else}
use Rattle.air_core.specs.Ring.{field}
use Rattle.air_core.proofs.FirstLemmas.{first_from-part}
use Rattle.gadget_limbs.specs.Sign.{sign_constraints, negative_constraints, same_constraints}
use Rattle.gadget_limbs.specs.Sum.{sum_constraints}
use Rattle.gadget_divide.specs.Divided.{divided_of, zero_constraints, operand_constraints}
use Rattle.gadget_divide.proofs.constraints.operands_broken.Goals as goal

length-sign : (g gate : ℕ) → length (sign_constraints field g gate) ≡ 2
unfolding sign_constraints
length-sign g gate = refl

length-zero : (z : ℕ) (w : Limbs ℕ) → length (zero_constraints field z w) ≡ 5
unfolding zero_constraints
length-zero z w = refl

length-negative : (g : ℕ) (x y : Limbs ℕ) → length (negative_constraints field g (list_of x) (list_of y)) ≡ 8
unfolding negative_constraints same_constraints sum_constraints list_of
length-negative g x y = refl

pub returns : goal.returns
unfolding operand_constraints
returns c =
    let from = c.args.from in
    let d = divided_of field c.args.own.now in
    let left_sign = sign_constraints field d.left_sign c.args.gate in
    let right_sign = sign_constraints field d.right_sign c.args.gate in
    let zero = zero_constraints field d.by_zero c.args.right.now in
    let dividend = negative_constraints field d.left_sign (list_of c.args.left) (list_of d.dividend) in
    let divisor = negative_constraints field d.right_sign (list_of c.args.right.now) (list_of d.divisor) in
    rw (
      c.first-3.ensures,
      c.first-2.ensures,
      c.first-words.ensures,
      c.first.ensures,
      c.first_nonzero-left_sign.ensures,
      c.first_nonzero-right_sign.ensures,
      c.first_nonzero-by_zero.ensures,
      c.negative_broken-dividend.ensures,
      c.negative_broken-divisor.ensures,
      c.sign_constraints.ensures,
      c.sign_constraints-2.ensures,
      c.zero_constraints.ensures,
      c.read-c.ensures.by_zero,
      c.read-c.ensures.left_sign,
      c.read-c.ensures.right_sign,
      c.read-c.ensures.dividend,
      c.read-c.ensures.divisor,
    )
    (sym (first_from-part from (from + 2) left_sign (right_sign ++ (zero ++ (dividend ++ divisor))) (omega (arith, length-sign d.left_sign c.args.gate))
    ∙ ap (or_else (first_from from left_sign)) (first_from-part (from + 2) (from + 4) right_sign (zero ++ (dividend ++ divisor)) (omega (arith, length-sign d.right_sign c.args.gate))
    ∙ ap (or_else (first_from (from + 2) right_sign)) (first_from-part (from + 4) (from + 9) zero (dividend ++ divisor) (omega (arith, length-zero d.by_zero c.args.right.now))
    ∙ ap (or_else (first_from (from + 4) zero)) (first_from-part (from + 9) (from + 17) dividend divisor (omega (arith, length-negative d.left_sign c.args.left d.dividend)))))))
