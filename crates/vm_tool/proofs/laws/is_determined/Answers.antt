use Rattle.vm_tool.proofs.LawLemmas.{is_determined}
use Rattle.vm_tool.proofs.laws.is_determined.Goals as goal

pub returns : goal.returns
returns c = is_determined
