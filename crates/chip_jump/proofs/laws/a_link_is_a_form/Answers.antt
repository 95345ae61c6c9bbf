use Rattle.chip_jump.specs.lemmas.Form.{a_link_is_a_form}
use Rattle.chip_jump.proofs.laws.a_link_is_a_form.Goals as goal

pub returns : goal.returns
returns c = a_link_is_a_form
