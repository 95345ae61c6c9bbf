use Rattle.gadget_time.specs.lemmas.ToldLaws.{told_no_hint}
use Rattle.gadget_time.proofs.laws.a_row_is_no_hint.Goals as goal

pub returns : goal.returns
returns c = told_no_hint
