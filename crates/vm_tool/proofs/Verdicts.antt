-- Verdicts on table files, as answers.
use Rattle.std.proofs.Common.{◌≡◌, ℕ, List, Option, Some, sym, ap, ◌∙◌}
use Rattle.elf_image.specs.Loaded.{Loaded}
use Rattle.vm_checker.proofs.OneVerdict.{accepted_alone, verdict_is_one}
use Rattle.vm_tool.specs.declared.answer.Answer.{Answer}
use Rattle.vm_tool.specs.CheckCommand.{answer_of_verdict, CheckAnswers, CheckSucceeds}
use Rattle.vm_tool.specs.Tables.{program_tables}

-- over an image a table file that is told has one answer
pub check_answers_are_one : (tables : List ℕ) (loaded : Loaded) (a b : Answer) → CheckAnswers (Some tables) loaded a → CheckAnswers (Some tables) loaded b → a ≡ b
check_answers_are_one tables loaded a b x y =
    x.is ∙ ap answer_of_verdict (verdict_is_one program_tables loaded tables x.verdict y.verdict x.judges y.judges) ∙ sym y.is

-- an accepted file is answered with what it states
pub accepted_says : (elf tables : List ℕ) (found other : Answer) (x : CheckSucceeds elf tables found) → CheckAnswers (Some tables) x.loaded other → other ≡ found
accepted_says elf tables found other x says =
    says.is ∙ ap answer_of_verdict (accepted_alone program_tables x.loaded tables says.verdict x.file x.stated says.judges x.accepted x.states) ∙ sym x.is
