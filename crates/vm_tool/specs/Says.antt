-- The answer to the words, over files of these bytes.
use Rattle.std.specs.Prelude.{◌≡◌, ℕ, List, None, Some}
use Rattle.std.specs.declared.option.Option.{Option}
use Rattle.vm_host.specs.declared.Slot.{Slot}
use Rattle.vm_host.specs.declared.Slot.TheVariants.{Elf, Second}
use Rattle.vm_tool.specs.declared.answer.Answer.{Answer}
use Rattle.vm_tool.specs.declared.answer.Answer.TheVariants as answer
use Rattle.vm_tool.specs.Command.{Command, run, transpile, check, prove, sample}
use Rattle.vm_tool.specs.Files.{OverElf}
use Rattle.vm_tool.specs.RunCommand.{RunAnswers, RunSucceeds}
use Rattle.vm_tool.specs.TranspileCommand.{Lists, TranspileSucceeds}
use Rattle.vm_tool.specs.CheckCommand.{CheckAnswers, CheckSucceeds}
use Rattle.vm_tool.specs.ProveCommand.{ProveAnswers, ProveSucceeds}
use Rattle.vm_tool.specs.SampleCommand.{SampleAnswers}

-- What the words are answered with, where the inputs have these bytes. Of a table file it is asked what the host tells.
-- Words of no command are said to be so.
abbrev pub Says : (Slot → List ℕ → Option (List ℕ)) → (Slot → List ℕ) → Option Command → Answer → Type 0
Says content inputs None found = found ≡ answer.Words
Says content inputs (Some (run elf hints steps)) found = OverElf (inputs Elf) (RunAnswers (inputs Second) steps) found
Says content inputs (Some (transpile elf)) found = OverElf (inputs Elf) Lists found
Says content inputs (Some (check elf tables)) found = OverElf (inputs Elf) (CheckAnswers (content Second tables)) found
Says content inputs (Some (prove elf hints out per_segment)) found = OverElf (inputs Elf) (ProveAnswers (inputs Second) per_segment) found
Says content inputs (Some (sample number out)) found = SampleAnswers number found

-- where a command can do what it is for, and what it then answers
abbrev pub Succeeds : (Slot → List ℕ) → Command → Answer → Type 0
Succeeds inputs (run elf hints steps) found = RunSucceeds (inputs Elf) (inputs Second) steps found
Succeeds inputs (transpile elf) found = TranspileSucceeds (inputs Elf) found
Succeeds inputs (check elf tables) found = CheckSucceeds (inputs Elf) (inputs Second) found
Succeeds inputs (prove elf hints out per_segment) found = ProveSucceeds (inputs Elf) (inputs Second) per_segment found
Succeeds inputs (sample number out) found = SampleAnswers number found
