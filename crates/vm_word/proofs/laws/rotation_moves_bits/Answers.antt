use Rattle.vm_word.proofs.WordLemmas.{bit_at-rotate_right}
use Rattle.vm_word.proofs.laws.rotation_moves_bits.Goals as goal

pub returns : goal.returns
returns c = bit_at-rotate_right
