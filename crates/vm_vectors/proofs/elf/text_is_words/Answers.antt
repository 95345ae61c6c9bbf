use Rattle.vm_vectors.proofs.Files.{text_is_words}
use Rattle.vm_vectors.proofs.elf.text_is_words.Goals as goal

pub returns : goal.returns
returns c = text_is_words
