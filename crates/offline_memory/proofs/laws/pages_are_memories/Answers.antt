use Rattle.offline_memory.proofs.PageLemmas.{memory_of_pages}
use Rattle.offline_memory.proofs.laws.pages_are_memories.Goals as goal

pub returns : goal.returns
returns c = memory_of_pages
