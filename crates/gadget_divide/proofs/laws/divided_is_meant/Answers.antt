use Rattle.gadget_divide.proofs.DividedSays.{divided_is_meant}
use Rattle.gadget_divide.proofs.laws.divided_is_meant.Goals as goal

pub returns : goal.returns
returns c = divided_is_meant
