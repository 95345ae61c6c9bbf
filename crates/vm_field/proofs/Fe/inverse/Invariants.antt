use Rattle.std.proofs.Common.{◌≡◌, ◌<◌}
use Rattle.vm_field.specs.Field.{modulus, field_mul}
use Rattle.vm_field.proofs.Fe.inverse.Given as goal

abbrev pub invariant-loop-rest : goal.invariant-loop-rest
invariant-loop-rest l = record {
  positive : 0 < l.rest;
  small : l.rest < modulus;
  product : field_mul l.fn.self l.factor ≡ l.rest;
}

abbrev pub decreases-loop-rest : goal.decreases-loop-rest
decreases-loop-rest l = l.rest
