use Rattle.std.proofs.Common.{arith}
use Rattle.vm_field.proofs.Ring.{field_add_below, field_sub_below, field_mul_below, field_neg_below, field_add_comm, field_add_assoc, field_add-zero, field_add-field_neg, field_sub_is, field_mul_comm, field_mul_assoc, field_mul-one, field_mul-field_add}
use Rattle.vm_field.proofs.Inverse.{inverse_exists}
use Rattle.vm_field.proofs.laws.operations_form_a_field.Goals as goal

pub returns : goal.returns
returns c = record {
  one_below = omega arith;
  add_below = field_add_below;
  sub_below = field_sub_below;
  mul_below = field_mul_below;
  neg_below = field_neg_below;
  add_comm = field_add_comm;
  add_assoc = field_add_assoc;
  add_zero = field_add-zero;
  add_neg = field_add-field_neg;
  sub_is = field_sub_is;
  mul_comm = field_mul_comm;
  mul_assoc = field_mul_assoc;
  mul_one = field_mul-one;
  mul_add = field_mul-field_add;
  inverse = inverse_exists;
}
