use Rattle.vm_vectors.proofs.SampleWords.{sample_text_is_the_sample}
use Rattle.vm_vectors.proofs.laws.sample_text_is_the_sample.Goals as goal

pub returns : goal.returns
returns c = sample_text_is_the_sample
