use Rattle.adapter_mem.proofs.SelectLemmas.{stores_are_laid}
use Rattle.adapter_mem.proofs.laws.stores_are_laid.Goals as goal

pub returns : goal.returns
returns c = λ forms k flags word block selected w b. stores_are_laid forms k flags selected block b word w
