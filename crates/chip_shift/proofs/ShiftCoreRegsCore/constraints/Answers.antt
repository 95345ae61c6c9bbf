use Rattle.std.proofs.Common.{refl}
use Rattle.gadget_limbs.specs.Sign.{sign_constraints}
use Rattle.gadget_shift.specs.Shift.{shift_columns, amount_constraints, selected, left_constraints, right_constraints}
use Rattle.vm_field.specs.Limbs.{list_of}
use Rattle.chip_shift.specs.Shift.{shift_constraints_of}
use Rattle.chip_shift.proofs.ShiftCoreRegsCore.constraints.Goals as goal

pub returns-clause-number : goal.returns-clause-number
unfolding shift_constraints_of amount_constraints sign_constraints left_constraints right_constraints selected shift_columns list_of
returns-clause-number c o flags own = refl
