use Rattle.gadget_shift.proofs.ShiftSays.{right_law}
use Rattle.gadget_shift.proofs.laws.right_shifts_are_meant.Goals as goal

pub returns : goal.returns
returns c = λ g n s b a bit k p q h. right_law n s b a k p q g bit h
