use Rattle.gadget_shift.proofs.ShiftSays.{left_law}
use Rattle.gadget_shift.proofs.laws.left_shifts_are_meant.Goals as goal

pub returns : goal.returns
returns c = λ n s b a k p q h. left_law n s b a k p q h
