-- What follows from the contract of the top call.
use Rattle.std.specs.Prelude.{◌≡◌, ◌⊎◌, ℕ, List, [], ◌∷◌, Some, Option}
use Rattle.vm_host.specs.declared.Slot.{Slot}
use Rattle.vm_host.specs.declared.Slot.TheVariants.{Elf, Second}
use Rattle.vm_host.specs.declared.Place.{Place}
use Rattle.vm_host.specs.declared.Place.TheVariants as place
use Rattle.vm_host.specs.State.{HostState, then_more}
use Rattle.vm_host.specs.Calls.{Rose}
use Rattle.vm_tool.specs.declared.answer.Answer.{Answer}
use Rattle.vm_tool.specs.declared.answer.Status.{Status}
use Rattle.vm_tool.specs.declared.answer.Status.TheVariants as status
use Rattle.hex.specs.Hex.{encode_lower}
use Rattle.vm_tool.specs.Answer.{status_of, text_of, line_of_accepted, line_of_proved}
use Rattle.vm_tool.specs.Command.{Command, Means, names_of, check, prove}
use Rattle.vm_tool.specs.Files.{EachInput, RefusesElf}
use Rattle.vm_tool.specs.Says.{Says, Succeeds}
use Rattle.vm_tool.specs.Outcome.{all_names, OpensElfAlone, Answers}

-- words have one meaning
abbrev pub MeaningIsOne : Type 0
MeaningIsOne = (words : List (List ℕ)) (a b : Option Command) → Means words a → Means words b → a ≡ b

-- the files of these names are told, and the inputs have their bytes
abbrev pub AreTold : (Slot → List ℕ → Option (List ℕ)) → List (Place × List ℕ) → (Slot → List ℕ) → Type 0
AreTold content names inputs = EachInput (λ slot name. content slot name ≡ Some (inputs slot)) names

-- words and files have one answer
abbrev pub AnswerIsOne : Type 0
AnswerIsOne = (content : Slot → List ℕ → Option (List ℕ)) (inputs : Slot → List ℕ) (command : Option Command) (a b : Answer) → AreTold content (all_names command) inputs
    → Says content inputs command a → Says content inputs command b → a ≡ b

-- the status is this answer's and its line is said, unless memory was refused
abbrev pub IsAnswered : HostState → HostState → Status → Answer → Type 0
IsAnswered old new result found = (result ≡ status.NoMemory) ⊎ ((result ≡ status_of found) × (new.said ≡ then_more old.said (text_of found)))

-- where the files are told and no fault is counted, a call gives the answer that they have
abbrev pub Determined : Type 0
Determined = (command : Option Command) (old new : HostState) (result : Status) (inputs : Slot → List ℕ) (found : Answer)
    → Answers command old new result
    → AreTold old.content (all_names command) inputs
    → (Rose old.faults new.faults → ⊥)
    → Says old.content inputs command found
    → IsAnswered old new result found

-- where the files are told and no fault is counted, a command that can succeed does, with status 0
abbrev pub Complete : Type 0
Complete = (command : Command) (old new : HostState) (result : Status) (inputs : Slot → List ℕ) (found : Answer)
    → Answers (Some command) old new result
    → AreTold old.content (names_of command) inputs
    → (Rose old.faults new.faults → ⊥)
    → Succeeds inputs command found
    → (status_of found ≡ status.Done) × IsAnswered old new result found

-- where the first file of the words is an ELF file that is told and refused, no other is opened, and where no
-- fault is counted it is said to be so, whatever else the words name
abbrev pub RefusedElfDecides : Type 0
RefusedElfDecides = (command : Option Command) (old new : HostState) (result : Status) (elf bytes : List ℕ) (others : List (Place × List ℕ)) (refusal : Answer)
    → Answers command old new result
    → all_names command ≡ (place.Elf, elf) ∷ others → old.content Elf elf ≡ Some bytes
    → RefusesElf bytes refusal
    → OpensElfAlone elf old new × ((Rose old.faults new.faults → ⊥) → IsAnswered old new result refusal)

-- A file that was written with status 0 is accepted by a check over the same ELF file, on a host that tells it: where no fault
-- is counted the status is 0, or 7 for want of memory. Both lines have the same exit code, public bytes and segments.
pub record SaysTheSame (old new again later : HostState) (result : Status) : Type 0 where
  pub code : ℕ
  pub public_bytes : List ℕ
  pub segments : ℕ
  pub steps : ℕ
  pub hint_bytes : ℕ
  pub proved : new.said ≡ then_more old.said (line_of_proved code (encode_lower public_bytes) segments steps)
  pub accepted : (result ≡ status.NoMemory) ⊎ ((result ≡ status.Done) × (later.said ≡ then_more again.said (line_of_accepted code (encode_lower public_bytes) segments hint_bytes)))

abbrev pub WrittenFilesAreAccepted : Type 0
WrittenFilesAreAccepted = (elf hints out image tables bytes : List ℕ) (per_segment : ℕ) (old new again later : HostState) (result : Status)
    → (a : Answers (Some (prove elf hints out per_segment)) old new status.Done) → new.output.written ≡ Some bytes
    → Answers (Some (check image tables)) again later result → again.content Elf image ≡ Some (a.inputs Elf) → again.content Second tables ≡ Some bytes
    → (Rose again.faults later.faults → ⊥)
    → SaysTheSame old new again later result

-- a host's fault is answered only where the host counted one
abbrev pub FaultHasCause : Type 0
FaultHasCause = (command : Option Command) (old new : HostState) → Answers command old new status.HostFault → Rose old.faults new.faults
