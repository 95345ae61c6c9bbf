use Rattle.std.proofs.Common.{◌≢◌, ◌%◌, arith}
use Rattle.vm_field.specs.Field.{modulus}
use Rattle.vm_field.proofs.Prime.{no_divisor}
use Rattle.vm_field.proofs.Inverse.{inverse-step}
use Rattle.vm_field.proofs.Fe.inverse.Goals as goal

pub loop-rest-preserved : goal.loop-rest-preserved
loop-rest-preserved c =
    let rest = c.loop-rest.rest in
    let keeps = c.loop-rest.invariant in
    let not_zero : modulus % rest ≢ 0 = no_divisor rest (omega arith) keeps.small in
    record {
      positive = omega arith;
      small = omega arith;
      product = rw (c.neg-factor.ensures, c.mul.ensures) (inverse-step c.args.self c.loop-rest.factor rest keeps.product keeps.positive keeps.small);
    }
