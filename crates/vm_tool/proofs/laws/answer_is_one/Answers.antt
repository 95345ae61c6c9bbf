use Rattle.vm_tool.proofs.LawLemmas.{answer_is_one}
use Rattle.vm_tool.proofs.laws.answer_is_one.Goals as goal

pub returns : goal.returns
returns c = answer_is_one
