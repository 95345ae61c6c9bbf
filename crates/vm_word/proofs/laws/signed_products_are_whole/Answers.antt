use Rattle.vm_word.proofs.ProductLemmas.{signed_products}
use Rattle.vm_word.proofs.laws.signed_products_are_whole.Goals as goal

pub returns : goal.returns
returns c = signed_products
