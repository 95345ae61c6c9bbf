use Rattle.offline_memory.proofs.EventLemmas.{accesses_balance}
use Rattle.offline_memory.proofs.laws.balanced_events_balance_accesses.Goals as goal

pub returns : goal.returns
returns c = accesses_balance
