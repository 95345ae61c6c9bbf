use Rattle.adapter_mem.proofs.SelectLemmas.{loads_are_read}
use Rattle.adapter_mem.proofs.laws.loads_are_read.Goals as goal

pub returns : goal.returns
returns c = λ forms k flags block g selected extends bytes sign. loads_are_read forms k flags selected block bytes extends g sign
