use Rattle.gadget_time.specs.lemmas.ToldLaws.{told_step}
use Rattle.gadget_time.proofs.laws.a_valid_row_is_a_step.Goals as goal

pub returns : goal.returns
returns c = told_step
