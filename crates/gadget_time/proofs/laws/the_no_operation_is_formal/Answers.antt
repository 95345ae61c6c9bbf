use Rattle.std.proofs.Common.{refl}
use Rattle.air_core.specs.First.{bit}
use Rattle.air_core.specs.Flags.{flag_constraints}
use Rattle.air_core.specs.Path.{path_lines}
use Rattle.gadget_time.specs.Form.{columns_by, form_constraints}
use Rattle.gadget_time.proofs.laws.the_no_operation_is_formal.Goals as goal

pub returns : goal.returns
unfolding bit flag_constraints path_lines columns_by form_constraints
returns c = record { constraints = λ row. refl; lines = λ hi row. refl }
