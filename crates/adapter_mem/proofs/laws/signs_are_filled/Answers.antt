use Rattle.adapter_mem.proofs.SelectLemmas.{signs_are_filled}
use Rattle.adapter_mem.proofs.laws.signs_are_filled.Goals as goal

pub returns : goal.returns
returns c = λ forms k flags block selected bytes. signs_are_filled forms k flags selected block bytes
