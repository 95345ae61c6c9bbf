use Rattle.offline_memory.proofs.PageLemmas.{untouched_stays}
use Rattle.offline_memory.proofs.laws.untouched_blocks_stay.Goals as goal

pub returns : goal.returns
returns c = untouched_stays
