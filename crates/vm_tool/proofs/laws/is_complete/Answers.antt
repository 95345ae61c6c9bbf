use Rattle.vm_tool.proofs.LawLemmas.{is_complete}
use Rattle.vm_tool.proofs.laws.is_complete.Goals as goal

pub returns : goal.returns
returns c = is_complete
