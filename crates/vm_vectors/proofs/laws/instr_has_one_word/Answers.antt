use Rattle.vm_vectors.proofs.OneWord.{one_word}
use Rattle.vm_vectors.proofs.laws.instr_has_one_word.Goals as goal

pub returns : goal.returns
returns c = one_word
