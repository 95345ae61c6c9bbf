use Rattle.vm_word.proofs.ShiftLemmas.{signed_shift_rounds_down}
use Rattle.vm_word.proofs.laws.signed_shift_rounds_down.Goals as goal

pub returns : goal.returns
returns c = signed_shift_rounds_down
