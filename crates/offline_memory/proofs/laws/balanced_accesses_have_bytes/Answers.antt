use Rattle.offline_memory.proofs.PageLemmas.{all_bytes}
use Rattle.offline_memory.proofs.laws.balanced_accesses_have_bytes.Goals as goal

pub returns : goal.returns
returns c = all_bytes
