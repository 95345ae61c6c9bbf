use Rattle.offline_memory.specs.Pages.{blocks_of}
use Rattle.offline_memory.proofs.PageLemmas.{old_times}
use Rattle.offline_memory.proofs.laws.old_times_are_access_times.Goals as goal

pub returns : goal.returns
returns c = λ pages accesses balanced. old_times (blocks_of pages) accesses balanced
