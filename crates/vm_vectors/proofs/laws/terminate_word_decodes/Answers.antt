use Rattle.vm_vectors.proofs.InstrWords.{terminate_decodes}
use Rattle.vm_vectors.proofs.laws.terminate_word_decodes.Goals as goal

pub returns : goal.returns
returns c = terminate_decodes
