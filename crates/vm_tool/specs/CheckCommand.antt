-- The answer to `check`.
use Rattle.std.specs.Prelude.{◌≡◌, ℕ, List, Option, IfSome}
use Rattle.elf_image.specs.Loaded.{Loaded}
use Rattle.vm_trace.specs.File.{File}
use Rattle.vm_checker.specs.declared.Accepted.{Accepted as Acceptance}
use Rattle.vm_checker.specs.declared.Verdict.{Verdict}
use Rattle.vm_checker.specs.declared.Verdict.TheVariants as verdict
use Rattle.vm_checker.specs.Exactly.{IsAcceptedFile}
use Rattle.vm_checker.specs.Verdicts.{JudgesFile, States}
use Rattle.vm_tool.specs.declared.answer.Answer.{Answer}
use Rattle.vm_tool.specs.declared.answer.Answer.TheVariants as answer
use Rattle.vm_tool.specs.Files.{GivesImage}
use Rattle.vm_tool.specs.Tables.{program_tables}

abbrev pub answer_of_verdict : Verdict → Answer
answer_of_verdict (verdict.Accepted accepted) = answer.Accepted accepted
answer_of_verdict (verdict.Rejected reason) = answer.Rejected reason

-- The answer to `check` over an image and a table file: a verdict, and where the file's bytes are told, the one on them.
pub record CheckAnswers (told : Option (List ℕ)) (loaded : Loaded) (found : Answer) : Type 0 where
  pub verdict : Verdict
  pub judges : IfSome told (λ bytes. JudgesFile program_tables loaded bytes verdict)
  pub is : found ≡ answer_of_verdict verdict

-- the table file is accepted, and what it states is answered
pub record CheckSucceeds (elf tables : List ℕ) (found : Answer) : Type 0 where
  pub loaded : Loaded
  pub image : GivesImage elf loaded
  pub file : File
  pub accepted : IsAcceptedFile (λ version. program_tables) loaded 1 tables file
  pub stated : Acceptance
  pub states : States program_tables loaded file stated
  pub is : found ≡ answer.Accepted stated
