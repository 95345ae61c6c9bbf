use Rattle.std.proofs.Common.{refl}
use Rattle.air_core.specs.First.{bit}
use Rattle.air_core.specs.Flags.{flag_constraints}
use Rattle.air_core.specs.Path.{path_lines}
use Rattle.vm_field.specs.Limbs.{list_of}
use Rattle.gadget_time.specs.Told.{time_constraint, touch_constraint, touch_lines}
use Rattle.gadget_time.specs.Form.{columns_by, form_constraints}
use Rattle.adapter_mem.specs.Memory.{memory_numbers}
use Rattle.adapter_mem.specs.Pointer.{pointer_constraints, low_half, high_half, half_out, part, pointer}
use Rattle.adapter_mem.specs.Select.{stored_limb}
use Rattle.chip_store.proofs.laws.store_is_formal.Goals as goal

pub returns : goal.returns
unfolding flag_constraints path_lines time_constraint touch_constraint touch_lines columns_by form_constraints bit list_of memory_numbers pointer_constraints low_half high_half half_out part pointer stored_limb
returns c = record { constraints = λ row. refl; lines = λ hi row. refl }
