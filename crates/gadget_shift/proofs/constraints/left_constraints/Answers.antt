use Rattle.std.proofs.Common.{refl}
use Rattle.vm_field.specs.Limbs.{list_of}
use Rattle.gadget_shift.specs.Shift.{left_constraints, selected, left_limb}
use Rattle.gadget_shift.proofs.constraints.left_constraints.Goals as goal

pub returns : goal.returns
unfolding left_constraints selected left_limb list_of
returns c = rw (c.gated.ensures, c.gated-2.ensures, c.gated-3.ensures, c.gated-4.ensures, c.gated-5.ensures, c.gated-6.ensures, c.gated-7.ensures, c.gated-8.ensures, c.gated-9.ensures, c.gated-10.ensures, c.gated-11.ensures, c.gated-12.ensures, c.gated-13.ensures, c.gated-14.ensures, c.gated-15.ensures, c.gated-16.ensures, c.shifted-x0.ensures, c.shifted-x1.ensures, c.shifted-x2.ensures, c.shifted-x3.ensures, c.power_by-power.ensures, c.read-c.ensures.bits, c.read-c.ensures.limbs, c.read-c.ensures.carries) refl
