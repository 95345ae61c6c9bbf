use Rattle.gadget_time.specs.lemmas.ToldLaws.{told_silent}
use Rattle.gadget_time.proofs.laws.a_silent_row_says_nothing.Goals as goal

pub returns : goal.returns
returns c = told_silent
