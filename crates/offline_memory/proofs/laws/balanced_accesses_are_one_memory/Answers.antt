use Rattle.offline_memory.proofs.PageLemmas.{one_memory}
use Rattle.offline_memory.proofs.laws.balanced_accesses_are_one_memory.Goals as goal

pub returns : goal.returns
returns c = one_memory
