use Rattle.vm_vectors.proofs.SampleRun.{sample_ends}
use Rattle.vm_vectors.proofs.laws.sample_ends.Goals as goal

pub returns : goal.returns
returns c = sample_ends
