use Rattle.vm_vectors.proofs.SampleText.{no_sha_block}
use Rattle.vm_vectors.proofs.laws.sample_has_no_sha_block.Goals as goal

pub returns : goal.returns
returns c = λ number words pc word state block are. no_sha_block number words are pc word state block
