-- What a call of the program did.
use Rattle.std.specs.Prelude.{◌≡◌, ◌⊎◌, ℕ, ◌≤◌, List, [], ◌∷◌, true, None, Some, Ok, Err, Result}
use Rattle.std.specs.Option.{option_map}
use Rattle.std.specs.declared.option.Option.{Option}
use Rattle.vm_host.specs.declared.Place.{Place}
use Rattle.vm_host.specs.declared.Place.TheVariants as place
use Rattle.vm_host.specs.declared.Slot.{Slot}
use Rattle.vm_host.specs.declared.Slot.TheVariants.{Elf, Second}
use Rattle.vm_host.specs.declared.HostError.TheVariants.{Failed, OutOfMemory}
use Rattle.vm_host.specs.State.{HostState, then_more}
use Rattle.vm_host.specs.Calls.{Rose, GrowsByPart}
use Rattle.elf_image.specs.Loaded.{Loaded}
use Rattle.vm_checker.specs.declared.Accepted.{Accepted as Acceptance}
use Rattle.vm_tool.specs.declared.answer.Answer.{Answer}
use Rattle.vm_tool.specs.declared.answer.Answer.TheVariants.{Accepted}
use Rattle.vm_tool.specs.declared.answer.Status.{Status}
use Rattle.vm_tool.specs.declared.answer.Status.TheVariants.{Done, HostFault, NoMemory}
use Rattle.vm_tool.specs.declared.answer.Halt.{Halt}
use Rattle.vm_tool.specs.declared.answer.Halt.TheVariants.{Found, Host}
use Rattle.vm_tool.specs.Answer.{status_of, text_of, status_of_error}
use Rattle.vm_tool.specs.Command.{Command, names_of, run, transpile, check, prove, sample}
use Rattle.vm_tool.specs.Files.{AreContents, GivesImage}
use Rattle.vm_tool.specs.ProveCommand.{LeavesTables}
use Rattle.vm_tool.specs.SampleCommand.{sample_image, sample_per_segment}
use Rattle.vm_tool.specs.Says.{Says}

-- the names of a command, and none for other words
abbrev pub all_names : Option Command → List (Place × List ℕ)
all_names None = []
all_names (Some command) = names_of command

-- nothing was written: only faults, inputs, what was said and the names may differ
abbrev pub WritesNothing : HostState → HostState → Type 0
WritesNothing old new = new ≡ record old { faults = new.faults; input = new.input; said = new.said; named = new.named }

-- only the output, and with it what files have, may differ besides
abbrev pub WritesOutput : HostState → HostState → Type 0
WritesOutput old new = new ≡ record old { faults = new.faults; input = new.input; output = new.output; said = new.said; named = new.named; content = new.content }

-- a table file that was accepted was read to its end
abbrev pub ReadsAccepted : List ℕ → HostState → HostState → Halt → Type 0
ReadsAccepted tables old new halt = (accepted : Acceptance) → halt ≡ Found (Accepted accepted)
    → new.input Second ≡ record { is_open = true; rest = option_map (λ bytes. []) (old.content Second tables) }

-- What a command leaves behind, by what it was answered with: an answer that was said, or a failure of the
-- host, or want of memory. The inputs have these bytes.
abbrev pub Leaves : (Slot → List ℕ) → Option Command → HostState → HostState → Halt → Type 0
Leaves inputs None old new halt = WritesNothing old new
Leaves inputs (Some (run elf hints steps)) old new halt = WritesNothing old new
Leaves inputs (Some (transpile elf)) old new halt = WritesNothing old new
Leaves inputs (Some (check elf tables)) old new halt = WritesNothing old new × ReadsAccepted tables old new halt
Leaves inputs (Some (prove elf hints out per_segment)) old new halt = WritesOutput old new × LeavesTables (GivesImage (inputs Elf)) (inputs Second) per_segment old new halt
Leaves inputs (Some (sample number out)) old new halt = WritesOutput old new × LeavesTables (λ loaded. loaded ≡ sample_image number) [] sample_per_segment old new halt

-- no name but the ELF file's was handed over, the second input stayed, and nothing was written
pub record OpensElfAlone (elf : List ℕ) (old new : HostState) : Type 0 where
  pub named : GrowsByPart old.named new.named ((place.Elf, elf) ∷ [])
  pub second : new.input Second ≡ old.input Second
  pub writes : WritesNothing old new

-- where the first file of the words is an ELF file, no other is opened unless it has an image
abbrev pub ElfFirst : (Slot → List ℕ) → Option Command → HostState → HostState → Type 0
ElfFirst inputs command old new = (elf : List ℕ) (others : List (Place × List ℕ)) → all_names command ≡ (place.Elf, elf) ∷ others
    → OpensElfAlone elf old new ⊎ ((loaded : Loaded) × GivesImage (inputs Elf) loaded)

-- nothing was said, or a first part of the line of an answer to the words
abbrev pub SaysPart : (Slot → List ℕ) → Option Command → HostState → HostState → Type 0
SaysPart inputs command old new = (new.said ≡ old.said)
    ⊎ ((found : Answer) × Says old.content inputs command found × GrowsByPart old.said new.said (text_of found))

-- The status and the line that is said are an answer to the words; or the host failed, or memory was refused.
pub data Outcome (inputs : Slot → List ℕ) (command : Option Command) (old new : HostState) (status : Status) : Type 0 where
  answered : (found : Answer) → Says old.content inputs command found → status ≡ status_of found → new.said ≡ then_more old.said (text_of found)
      → Leaves inputs command old new (Found found) → Outcome inputs command old new status
  fault : status ≡ HostFault → Rose old.faults new.faults → SaysPart inputs command old new
      → Leaves inputs command old new (Host Failed) → Outcome inputs command old new status
  memory : status ≡ NoMemory → SaysPart inputs command old new
      → Leaves inputs command old new (Host OutOfMemory) → Outcome inputs command old new status

-- what a call with these words did
pub record Answers (command : Option Command) (old new : HostState) (status : Status) : Type 0 where
  -- there are bytes of the files, those that the host tells where it tells them, and of them the rest is said
  pub inputs : Slot → List ℕ
  pub contents : AreContents old.content (all_names command) inputs
  pub outcome : Outcome inputs command old new status
  pub later : old.faults ≤ new.faults
  -- a first part of the command's names was handed over, and no other name; on success all of them
  pub named : GrowsByPart old.named new.named (all_names command)
  pub done : status ≡ Done → new.named ≡ then_more old.named (all_names command)
  pub elf_first : ElfFirst inputs command old new

-- before anything is said: an answer, or the host failed, or memory was refused
abbrev pub halt_of : Result Answer Halt → Halt
halt_of (Ok found) = Found found
halt_of (Err halt) = halt

abbrev pub IsCauseOf : (Slot → List ℕ) → Option Command → HostState → HostState → Halt → Type 0
IsCauseOf inputs command old new (Found found) = Says old.content inputs command found × (status_of found ≡ Done → new.named ≡ then_more old.named (all_names command))
IsCauseOf inputs command old new (Host error) = error ≡ Failed → Rose old.faults new.faults

pub record Finds (command : Option Command) (old new : HostState) (halt : Halt) : Type 0 where
  pub inputs : Slot → List ℕ
  pub contents : AreContents old.content (all_names command) inputs
  pub cause : IsCauseOf inputs command old new halt
  pub leaves : Leaves inputs command old new halt
  pub later : old.faults ≤ new.faults
  pub said : new.said ≡ old.said
  pub named : GrowsByPart old.named new.named (all_names command)
  pub elf_first : ElfFirst inputs command old new

-- an answer is said, and nothing else is done
pub data Spoken (found : Answer) (old new : HostState) (status : Status) : Type 0 where
  whole : status ≡ status_of found → new.said ≡ then_more old.said (text_of found) → Spoken found old new status
  fault_in : status ≡ HostFault → Rose old.faults new.faults → GrowsByPart old.said new.said (text_of found) → Spoken found old new status
  memory_in : status ≡ NoMemory → GrowsByPart old.said new.said (text_of found) → Spoken found old new status

pub record Speaks (found : Answer) (old new : HostState) (status : Status) : Type 0 where
  pub is : Spoken found old new status
  pub later : old.faults ≤ new.faults
  pub frame : new ≡ record old { faults = new.faults; said = new.said }
