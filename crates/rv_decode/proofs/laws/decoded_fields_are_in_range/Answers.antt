use Rattle.rv_decode.proofs.ListingLemmas.{IfSome-decode_of}
use Rattle.rv_decode.proofs.laws.decoded_fields_are_in_range.Goals as goal

pub returns : goal.returns
returns c = IfSome-decode_of
