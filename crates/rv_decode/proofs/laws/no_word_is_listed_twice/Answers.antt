use Rattle.rv_decode.proofs.ListingLemmas.{one_listed}
use Rattle.rv_decode.proofs.laws.no_word_is_listed_twice.Goals as goal

pub returns : goal.returns
returns c = one_listed
