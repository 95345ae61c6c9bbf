use Rattle.std.proofs.Common.{◌+◌, sym, arith}
use Rattle.air_core.specs.Ring.{field}
use Rattle.air_core.proofs.FirstLemmas.{first_from-part}
use Rattle.gadget_limbs.specs.Sign.{sign_constraints}
use Rattle.chip_mul.specs.Mul.{products_of}
use Rattle.chip_mul.proofs.Parts.{length-sign}
use Rattle.chip_mul.proofs.signs_broken.Goals as goal

pub returns : goal.returns
returns c =
    let p = products_of field c.args.own.now in
    rw (
      c.first.ensures,
      c.first_nonzero-left.ensures,
      c.first_nonzero.ensures,
      c.sign_constraints-left.ensures,
      c.sign_constraints-right.ensures,
      c.read-columns.ensures.left,
      c.read-columns.ensures.right,
    )
    (sym (first_from-part c.args.from (c.args.from + 2) (sign_constraints field p.left_sign c.args.first_gate) (sign_constraints field p.right_sign c.args.second_gate) (omega (arith, length-sign p.left_sign c.args.first_gate))))
