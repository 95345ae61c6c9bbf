-- How many lookups there are.
use Rattle.std.proofs.Common.{◌≡◌, ℕ, ◌++◌, length, refl}
use Rattle.vm_field.specs.declared.limbs.Limbs.{Limbs}
use Rattle.vm_field.specs.Limbs.{list_of}
use Rattle.air_core.specs.Ring.{field}
use Rattle.gadget_limbs.specs.Sign.{sign_constraints}
use Rattle.gadget_products.specs.Product.{places}
use Rattle.gadget_products.specs.Carry.{carries}
use Rattle.gadget_products.specs.Multiply.{extended, product_carries}
use Rattle.adapter_regs.specs.Core.{Operands}
use Rattle.chip_mul.specs.Mul.{mul_core, mul_lookups}

pub length-carries : (g h : ℕ) (b c low high : Limbs ℕ) → length (product_carries field g h b c low high) ≡ 8
unfolding product_carries carries places list_of
length-carries g h b c low high = refl

pub length-limbs : (low high : Limbs ℕ) → length (list_of low ++ list_of high) ≡ 8
unfolding list_of
length-limbs low high = refl

pub length-lookups : (o : Operands ℕ) → length (mul_core.parts.lookups o) ≡ 18
unfolding mul_lookups product_carries carries places list_of
length-lookups o = refl

pub length-sign : (g gate : ℕ) → length (sign_constraints field g gate) ≡ 2
unfolding sign_constraints
length-sign g gate = refl
