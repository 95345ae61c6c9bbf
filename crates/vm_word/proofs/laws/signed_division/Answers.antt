use Rattle.vm_word.proofs.DivisionLemmas.{signed_division}
use Rattle.vm_word.proofs.laws.signed_division.Goals as goal

pub returns : goal.returns
returns c = signed_division
