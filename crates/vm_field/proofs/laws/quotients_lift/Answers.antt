use Rattle.vm_field.proofs.Lift.{lift}
use Rattle.vm_field.proofs.laws.quotients_lift.Goals as goal

pub returns : goal.returns
returns c = lift
