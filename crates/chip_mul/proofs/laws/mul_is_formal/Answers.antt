use Rattle.std.proofs.Common.{refl}
use Rattle.air_core.specs.First.{bit, gated_difference}
use Rattle.air_core.specs.Flags.{flag_constraints}
use Rattle.air_core.specs.Path.{path_lines}
use Rattle.vm_field.specs.Limbs.{list_of}
use Rattle.gadget_limbs.specs.Lookup.{choose}
use Rattle.gadget_limbs.specs.Sign.{sign_constraints, sign_looked_up}
use Rattle.gadget_products.specs.Product.{place, places}
use Rattle.gadget_products.specs.Carry.{carry_out, carries}
use Rattle.gadget_products.specs.Multiply.{extended, product_carries}
use Rattle.gadget_time.specs.Told.{time_constraint, touch_constraint, touch_lines}
use Rattle.gadget_time.specs.Form.{columns_by, form_constraints}
use Rattle.adapter_regs.specs.Regs.{regs_of, first_touch, second_touch, third_touch, immediate_constraints, regs_numbers}
use Rattle.chip_mul.specs.Mul.{products_of, left_signed, chosen, mul_lookups}
use Rattle.chip_mul.proofs.laws.mul_is_formal.Goals as goal

pub returns : goal.returns
unfolding bit gated_difference flag_constraints path_lines list_of choose sign_constraints sign_looked_up place places carry_out carries extended product_carries time_constraint touch_constraint touch_lines columns_by form_constraints regs_of first_touch second_touch third_touch immediate_constraints regs_numbers products_of left_signed chosen mul_lookups
returns c = record { constraints = λ row. refl; lines = λ hi row. refl }
