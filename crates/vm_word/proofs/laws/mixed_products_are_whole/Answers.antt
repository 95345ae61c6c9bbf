use Rattle.vm_word.proofs.ProductLemmas.{mixed_products}
use Rattle.vm_word.proofs.laws.mixed_products_are_whole.Goals as goal

pub returns : goal.returns
returns c = mixed_products
