use Rattle.gadget_time.specs.lemmas.ToldLaws.{told_uses, told_length}
use Rattle.gadget_time.proofs.laws.a_row_keeps_to_its_buses.Goals as goal

pub returns : goal.returns
returns c = λ hi sheet d owns others. (told_uses sheet owns hi d others, told_length hi d)
