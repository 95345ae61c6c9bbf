use Rattle.gadget_limbs.proofs.OrderedWords.{words_are_ordered}
use Rattle.gadget_limbs.proofs.laws.words_are_ordered.Goals as goal

pub returns : goal.returns
returns c = words_are_ordered
