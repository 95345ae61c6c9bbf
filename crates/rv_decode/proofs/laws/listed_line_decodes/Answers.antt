use Rattle.rv_decode.proofs.ListingLemmas.{decode_of-listed}
use Rattle.rv_decode.proofs.laws.listed_line_decodes.Goals as goal

pub returns : goal.returns
returns c = decode_of-listed
