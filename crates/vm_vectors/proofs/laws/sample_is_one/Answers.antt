use Rattle.vm_vectors.proofs.SampleIsOne.{sample_is_one}
use Rattle.vm_vectors.proofs.laws.sample_is_one.Goals as goal

pub returns : goal.returns
returns c = sample_is_one
