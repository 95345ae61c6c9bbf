use Rattle.gadget_time.specs.lemmas.ToldLaws.{good_program}
use Rattle.gadget_time.proofs.laws.a_valid_row_has_an_instruction.Goals as goal

pub returns : goal.returns
returns c = good_program
