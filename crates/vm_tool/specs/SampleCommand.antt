-- The answer to `sample`.
use Rattle.std.specs.Prelude.{◌≡◌, ℕ, List, []}
use Rattle.elf_image.specs.Loaded.{Loaded}
use Rattle.vm_vectors.specs.ElfFile.{text_image}
use Rattle.vm_vectors.specs.Sample.{sample_base, sample_text}
use Rattle.vm_prover.specs.declared.proving.Proved.{Proved}
use Rattle.vm_prover.specs.declared.proving.Proving.{Proving}
use Rattle.vm_prover.specs.declared.proving.Proving.TheVariants as proving
use Rattle.vm_prover.specs.Proving.{EndsSo}
use Rattle.vm_tool.specs.declared.answer.Answer.{Answer}
use Rattle.vm_tool.specs.declared.answer.Answer.TheVariants as answer

-- how many steps a segment of a sample has at most
abbrev pub sample_per_segment : ℕ
sample_per_segment = 4096

-- the image of the sample program of a number
abbrev pub sample_image : ℕ → Loaded
sample_image number = text_image sample_base (sample_text number)

-- what a run comes to is answered so
abbrev pub answer_of_sample : ℕ → Proving → Answer
answer_of_sample number (proving.Proved claim) = answer.Sampled number claim
answer_of_sample number (proving.Trapped trap) = answer.Trapped trap
answer_of_sample number proving.TooManySegments = answer.SegmentLimit

-- The run of the sample program on no hints ends, after 26,011 steps in 7 segments with exit code 0, and that is answered.
pub record SampleAnswers (number : ℕ) (found : Answer) : Type 0 where
  pub claim : Proved
  pub ends : EndsSo (sample_image number) [] sample_per_segment claim
  pub steps : claim.steps ≡ 26011
  pub code : claim.code ≡ 0
  pub segments : claim.segments ≡ 7
  pub is : found ≡ answer.Sampled number claim
