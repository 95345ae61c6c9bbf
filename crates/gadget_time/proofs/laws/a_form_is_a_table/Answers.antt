use Rattle.gadget_time.specs.lemmas.FormComplete.{form_table}
use Rattle.gadget_time.proofs.laws.a_form_is_a_table.Goals as goal

pub returns : goal.returns
returns c = form_table
