use Rattle.vm_word.proofs.WordLemmas.{word_of_bits-bits_of}
use Rattle.vm_word.proofs.laws.word_is_the_sum_of_its_bits.Goals as goal

pub returns : goal.returns
returns c = word_of_bits-bits_of
