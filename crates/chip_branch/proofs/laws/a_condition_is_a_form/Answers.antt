use Rattle.chip_branch.specs.lemmas.Form.{a_condition_is_a_form}
use Rattle.chip_branch.proofs.laws.a_condition_is_a_form.Goals as goal

pub returns : goal.returns
returns c = a_condition_is_a_form
