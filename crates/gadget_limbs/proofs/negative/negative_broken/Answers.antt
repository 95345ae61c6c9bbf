use Rattle.std.proofs.Common.{◌≡◌, ℕ, ◌+◌, length, refl, sym, arith}
use Rattle.vm_field.specs.Limbs.{list_of}
use Rattle.air_core.specs.Ring.{field}
use Rattle.air_core.proofs.FirstLemmas.{first_from-part}
use Rattle.vm_field.specs.declared.limbs.Limbs.{Limbs}
use Rattle.gadget_limbs.specs.Sign.{same_constraints, negative_constraints}
use Rattle.gadget_limbs.specs.Sum.{sum_constraints}
use Rattle.gadget_limbs.proofs.negative.negative_broken.Goals as goal

length-same : (g : ℕ) (x y : Limbs ℕ) → length (same_constraints field g (list_of x) (list_of y)) ≡ 4
unfolding same_constraints list_of
length-same g x y = refl

pub returns : goal.returns
unfolding negative_constraints list_of
returns c =
    let g = c.args.gate in
    let x = c.args.word in
    let y = c.args.other in
    rw (c.first.ensures, c.first_nonzero.ensures, c.first_broken-sums.ensures, c.same_constraints-same.ensures, c.array-none.ensures, c.array.ensures, c.array-2.ensures)
    (sym (first_from-part c.args.from (c.args.from + 4) (same_constraints field g (list_of x) (list_of y)) _ (omega (arith, length-same g x y))))
