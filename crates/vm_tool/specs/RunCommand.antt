-- The answer to `run`.
use Rattle.std.specs.Prelude.{◌≡◌, ℕ, ◌≤◌, List, length}
use Rattle.elf_image.specs.Loaded.{Loaded}
use Rattle.rv_run.specs.declared.outcome.RunEnd.{RunEnd}
use Rattle.rv_run.specs.declared.outcome.RunEnd.TheVariants as end
use Rattle.rv_run.specs.Run.{Ends, IsRunEnd}
use Rattle.vm_tool.specs.declared.answer.Answer.{Answer}
use Rattle.vm_tool.specs.declared.answer.Answer.TheVariants as answer
use Rattle.vm_tool.specs.Files.{MAX_FILE, GivesImage, RefusesHints}

-- what the end of a run is answered with
abbrev pub answer_of_end : ℕ → RunEnd → Answer
answer_of_end limit (end.Ended steps code public_bytes) = answer.Exit code public_bytes steps
answer_of_end limit end.StepLimit = answer.StepLimit limit
answer_of_end limit (end.Trapped steps trap) = answer.Trapped trap

-- the hint file isn't refused, and this is how the run ends
pub record RunEnds (hints : List ℕ) (limit : ℕ) (loaded : Loaded) (found : Answer) : Type 0 where
  pub short : length hints ≤ MAX_FILE
  pub end : RunEnd
  pub ended : IsRunEnd loaded hints limit end
  pub is : found ≡ answer_of_end limit end

-- the answer to `run` over an image and a hint file of these bytes
pub data RunAnswers (hints : List ℕ) (limit : ℕ) (loaded : Loaded) (found : Answer) : Type 0 where
  hints_refused : RefusesHints hints found → RunAnswers hints limit loaded found
  ended : RunEnds hints limit loaded found → RunAnswers hints limit loaded found

-- the run ends within its limit, and so it is answered
pub record RunSucceeds (elf hints : List ℕ) (limit : ℕ) (found : Answer) : Type 0 where
  pub loaded : Loaded
  pub image : GivesImage elf loaded
  pub short : length hints ≤ MAX_FILE
  pub steps : ℕ
  pub code : ℕ
  pub public_bytes : List ℕ
  pub within : steps ≤ limit
  pub ends : Ends loaded hints steps code public_bytes
  pub is : found ≡ answer.Exit code public_bytes steps
