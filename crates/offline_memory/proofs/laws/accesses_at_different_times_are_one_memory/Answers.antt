use Rattle.offline_memory.proofs.AnyOrder.{ordered_memory}
use Rattle.offline_memory.proofs.laws.accesses_at_different_times_are_one_memory.Goals as goal

pub returns : goal.returns
returns c = ordered_memory
