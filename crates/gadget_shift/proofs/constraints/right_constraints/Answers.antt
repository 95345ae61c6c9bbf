use Rattle.std.proofs.Common.{refl}
use Rattle.vm_field.specs.Limbs.{list_of}
use Rattle.gadget_shift.specs.Shift.{right_constraints, selected, right_limb}
use Rattle.gadget_shift.proofs.constraints.right_constraints.Goals as goal

pub returns : goal.returns
unfolding right_constraints selected right_limb list_of
returns c = rw (c.gated_right.ensures, c.gated_right-2.ensures, c.gated_right-3.ensures, c.gated_right-4.ensures, c.gated_right-5.ensures, c.gated_right-6.ensures, c.gated_right-7.ensures, c.gated_right-8.ensures, c.gated_right-9.ensures, c.gated_right-10.ensures, c.gated.ensures, c.gated-2.ensures, c.gated-3.ensures, c.gated-4.ensures, c.gated-5.ensures, c.gated-6.ensures, c.mul-top.ensures, c.sub.ensures, c.mul-full.ensures, c.of_u16.ensures, c.power_by-power.ensures, c.read-c.ensures.bits, c.read-c.ensures.limbs, c.read-c.ensures.carries) refl
