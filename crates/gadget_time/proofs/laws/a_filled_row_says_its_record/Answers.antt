use Rattle.gadget_time.specs.lemmas.Filled.{told_record}
use Rattle.gadget_time.proofs.laws.a_filled_row_says_its_record.Goals as goal

pub returns : goal.returns
returns c = told_record
