use Rattle.adapter_regs.specs.lemmas.Form.{core_form}
use Rattle.adapter_regs.proofs.laws.a_core_is_a_form.Goals as goal

pub returns : goal.returns
returns c = core_form
