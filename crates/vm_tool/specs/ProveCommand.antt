-- The answer to `prove`, and what it leaves of the output.
use Rattle.std.specs.Prelude.{◌≡◌, ◌⊎◌, ℕ, ◌≤◌, List, length, None, Some, MatchOption}
use Rattle.std.specs.declared.option.Option.{Option}
use Rattle.vm_host.specs.declared.Slot.{Slot}
use Rattle.vm_host.specs.declared.Slot.TheVariants.{Elf, Second}
use Rattle.vm_host.specs.State.{HostState}
use Rattle.elf_image.specs.Loaded.{Loaded}
use Rattle.vm_prover.specs.declared.proving.Proved.{Proved}
use Rattle.vm_prover.specs.declared.proving.Proving.{Proving}
use Rattle.vm_prover.specs.declared.proving.Proving.TheVariants as proving
use Rattle.vm_prover.specs.Proving.{ComesTo, EndsSo, WritesRun}
use Rattle.vm_tool.specs.declared.answer.Answer.{Answer}
use Rattle.vm_tool.specs.declared.answer.Answer.TheVariants as answer
use Rattle.vm_tool.specs.declared.answer.Halt.{Halt}
use Rattle.vm_tool.specs.declared.answer.Halt.TheVariants.{Found, Host}
use Rattle.vm_tool.specs.Files.{MAX_FILE, GivesImage, RefusesHints}
use Rattle.vm_tool.specs.Tables.{program_tables}

-- what a run comes to is answered so
abbrev pub answer_of_proving : Proving → Answer
answer_of_proving (proving.Proved claim) = answer.Proved claim
answer_of_proving (proving.Trapped trap) = answer.Trapped trap
answer_of_proving proving.TooManySegments = answer.SegmentLimit

-- the hint file isn't refused, and this is what the run comes to
pub record RunIsProved (hints : List ℕ) (per_segment : ℕ) (loaded : Loaded) (found : Answer) : Type 0 where
  pub short : length hints ≤ MAX_FILE
  pub proving : Proving
  pub comes : ComesTo loaded hints per_segment proving
  pub is : found ≡ answer_of_proving proving

-- the answer to `prove` over an image and a hint file of these bytes
pub data ProveAnswers (hints : List ℕ) (per_segment : ℕ) (loaded : Loaded) (found : Answer) : Type 0 where
  no_hints : RefusesHints hints found → ProveAnswers hints per_segment loaded found
  run_is_proved : RunIsProved hints per_segment loaded found → ProveAnswers hints per_segment loaded found

-- the run ends within the segments of a file, and so it is answered
pub record ProveSucceeds (elf hints : List ℕ) (per_segment : ℕ) (found : Answer) : Type 0 where
  pub loaded : Loaded
  pub image : GivesImage elf loaded
  pub short : length hints ≤ MAX_FILE
  pub claim : Proved
  pub ends : EndsSo loaded hints per_segment claim
  pub is : found ≡ answer.Proved claim

-- ---- the output

-- the output is as it was, and so are the files
pub record KeepsOutput (old new : HostState) : Type 0 where
  pub output : new.output ≡ old.output
  pub content : new.content ≡ old.content

-- The run of such an image on these hints ends within its segments. Its tables were written whole.
pub record WritesTables (IsImage : Loaded → Type 0) (hints : List ℕ) (per_segment : ℕ) (claim : Proved) (new : HostState) : Type 0 where
  pub loaded : Loaded
  pub image : IsImage loaded
  pub writes : WritesRun program_tables 1 loaded hints per_segment claim new

-- or they were maybe written in part
pub record MayWriteTables (IsImage : Loaded → Type 0) (hints : List ℕ) (per_segment : ℕ) : Type 0 where
  pub loaded : Loaded
  pub image : IsImage loaded
  pub claim : Proved
  pub so : EndsSo loaded hints per_segment claim

-- the claim of a file that was written
abbrev pub stated_claim : Answer → Option Proved
stated_claim (answer.Proved claim) = Some claim
stated_claim (answer.Sampled number claim) = Some claim
stated_claim found = None

-- What a command that proves a run leaves of the output: the whole file, where it is answered so; with other answers what
-- was there; where the host failed or memory was refused, maybe some first part of the file.
abbrev pub LeavesTables : (Loaded → Type 0) → List ℕ → ℕ → HostState → HostState → Halt → Type 0
LeavesTables IsImage hints per_segment old new (Found found) = MatchOption (stated_claim found) (KeepsOutput old new) (λ claim. WritesTables IsImage hints per_segment claim new)
LeavesTables IsImage hints per_segment old new (Host error) = KeepsOutput old new ⊎ MayWriteTables IsImage hints per_segment
