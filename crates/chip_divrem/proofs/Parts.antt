-- How many constraints and lookups there are.
use Rattle.std.proofs.Common.{◌≡◌, ℕ, ◌++◌, length, refl}
use Rattle.vm_field.specs.declared.limbs.Limbs.{Limbs}
use Rattle.vm_field.specs.Limbs.{list_of}
use Rattle.air_core.specs.Ring.{field}
use Rattle.gadget_limbs.specs.Less.{less_constraints, less_ranges, marks_sum, equal_above, marked_differs, differences}
use Rattle.gadget_limbs.specs.Sign.{sign_constraints, negative_constraints, same_constraints}
use Rattle.gadget_limbs.specs.Sum.{sum_constraints}
use Rattle.gadget_products.specs.Product.{places}
use Rattle.gadget_products.specs.Carry.{carries}
use Rattle.gadget_products.specs.Divide.{division_carries, division_sums, added}
use Rattle.gadget_divide.specs.Divided.{Divided, divided_of, zero_constraints, operand_constraints, result_constraints, divided_bytes, divided_lookups}
use Rattle.adapter_regs.specs.Core.{Operands}
use Rattle.chip_divrem.specs.DivRem.{divrem_constraints, divrem_lookups, divrem_core}

pub length-constraints : (o : Operands ℕ) → length (divrem_core.parts.constraints o) ≡ 60
unfolding divrem_constraints operand_constraints result_constraints divided_of sign_constraints zero_constraints negative_constraints same_constraints sum_constraints less_constraints marks_sum equal_above marked_differs differences list_of
length-constraints o = refl

pub length-lookups : (o : Operands ℕ) → length (divrem_core.parts.lookups o) ≡ 35
unfolding divrem_lookups divided_lookups divided_of divided_bytes less_ranges division_carries division_sums added carries places list_of
length-lookups o = refl

pub length-operands : (gate : ℕ) (c : Divided ℕ) (left right : Limbs ℕ) → length (operand_constraints field gate c left right) ≡ 25
unfolding operand_constraints sign_constraints zero_constraints negative_constraints same_constraints sum_constraints list_of
length-operands gate c left right = refl

pub length-divided : (valid gate : ℕ) (c : Divided ℕ) (left right : Limbs ℕ) → length (divided_lookups field valid gate c left right) ≡ 21
unfolding divided_lookups divided_bytes less_ranges list_of
length-divided valid gate c left right = refl

pub length-carries : (b c q r : Limbs ℕ) → length (division_carries field b c q r) ≡ 6
unfolding division_carries division_sums added carries places list_of
length-carries b c q r = refl

pub length-limbs : (low high : Limbs ℕ) → length (list_of low ++ list_of high) ≡ 8
unfolding list_of
length-limbs low high = refl
