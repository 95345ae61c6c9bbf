use Rattle.vm_vectors.proofs.InstrWords.{addi_decodes}
use Rattle.vm_vectors.proofs.laws.addi_word_decodes.Goals as goal

pub returns : goal.returns
returns c = addi_decodes
