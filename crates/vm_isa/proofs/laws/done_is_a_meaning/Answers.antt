use Rattle.vm_isa.proofs.NextLaws.{done_is_a_meaning}
use Rattle.vm_isa.proofs.laws.done_is_a_meaning.Goals as goal

pub returns : goal.returns
returns c = done_is_a_meaning
