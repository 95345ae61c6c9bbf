use Rattle.sha_words.proofs.RoundLemmas.{compress-rounds}
use Rattle.sha_words.proofs.laws.compression_is_rounds.Goals as goal

pub returns : goal.returns
returns c = compress-rounds
