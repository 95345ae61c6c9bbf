use Rattle.gadget_shift.proofs.ShiftSays.{looked_up}
use Rattle.gadget_shift.proofs.laws.amounts_are_looked_up.Goals as goal

pub returns : goal.returns
returns c = looked_up
