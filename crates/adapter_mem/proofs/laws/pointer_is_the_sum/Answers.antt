use Rattle.adapter_mem.proofs.PointerLaws.{pointer_both}
use Rattle.adapter_mem.proofs.laws.pointer_is_the_sum.Goals as goal

pub returns : goal.returns
returns c = pointer_both
