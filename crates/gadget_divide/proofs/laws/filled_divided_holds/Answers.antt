use Rattle.gadget_divide.proofs.DividedHolds.{filled_divided_holds}
use Rattle.gadget_divide.proofs.laws.filled_divided_holds.Goals as goal

pub returns : goal.returns
returns c = filled_divided_holds
