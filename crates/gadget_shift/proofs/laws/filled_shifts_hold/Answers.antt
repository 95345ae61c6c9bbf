use Rattle.gadget_shift.proofs.ShiftHolds.{filled_holds}
use Rattle.gadget_shift.proofs.laws.filled_shifts_hold.Goals as goal

pub returns : goal.returns
returns c = filled_holds
