use Rattle.vm_filler.proofs.CountLemmas.{counts_none}
use Rattle.vm_filler.proofs.lookups.Lookups.new.Goals as goal

pub returns-clause-holds : goal.returns-clause-holds
returns-clause-holds c = record {
  xor = counts_none 3 65536 _ c.in_ok-new.ensures;
  range = counts_none 4 131071 _ c.in_ok-new-2.ensures;
  constants = counts_none 5 64 _ c.in_ok-new-3.ensures;
}
