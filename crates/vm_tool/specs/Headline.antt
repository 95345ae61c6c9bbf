-- What the program says of the runs of the manual's machine.
use Rattle.std.specs.Prelude.{◌≡◌, ◌⊎◌, ℕ, ◌≤◌, List, [], ◌∷◌, length, codes, true, false, Some, IfSome}
use Rattle.std.specs.Fmt.{decimal}
use Rattle.hex.specs.Hex.{encode_lower}
use Rattle.vm_host.specs.declared.Slot.TheVariants.{Elf, Second}
use Rattle.vm_host.specs.State.{HostState, then_more}
use Rattle.vm_host.specs.Calls.{Rose}
use Rattle.elf_image.specs.Loaded.{Loaded}
use Rattle.elf_image.specs.Image.{HasImage}
use Rattle.rv_run.specs.Run.{Ends}
use Rattle.vm_trace.specs.File.{File}
use Rattle.acceptance.specs.Accepts.{Accepts, Collides, steps_in}
use Rattle.acceptance.specs.Spelled.{HintEvent, Spell, hints_before}
use Rattle.table_format.specs.Texts.{file_text}
use Rattle.vm_prover.specs.Survey.{EndsCut}
use Rattle.vm_prover.specs.Proving.{SpellsRun}
use Rattle.vm_tool.specs.declared.answer.Status.{Status}
use Rattle.vm_tool.specs.declared.answer.Status.TheVariants.{Done, NoMemory}
use Rattle.vm_tool.specs.Answer.{line_of_accepted, line_of_proved}
use Rattle.vm_tool.specs.Files.{MAX_FILE}
use Rattle.vm_tool.specs.Tables.{program_tables}

-- The bytes of the table file spell a file that is accepted over the image of the ELF file. On the hints that its rows
-- spell the manual's machine ends with the stated code and public bytes, after as many steps as it has valid rows; or
-- two different nodes that image and file hold have one digest. The line says what is stated, and the table file was
-- read to its end.
pub record RunsAsSaid (elf tables : List ℕ) (old new : HostState) : Type 0 where
  pub loaded : Loaded
  pub image : HasImage elf loaded
  pub file : File
  pub spelled : tables ≡ file_text file
  pub accepts : Accepts program_tables loaded file
  pub hints : List HintEvent
  pub spell : Spell program_tables file.segments hints
  pub run : Ends loaded (hints_before hints []) (steps_in program_tables file.segments) file.code file.public_bytes ⊎ Collides loaded file
  pub said : new.said ≡ then_more old.said (line_of_accepted file.code (encode_lower file.public_bytes) (length file.segments) (length (hints_before hints [])))
  pub read : new.input Second ≡ record { is_open = true; rest = Some [] }

-- where the words `check ELF TABLES` end with status 0, over two files that the host tells
abbrev pub AcceptedRuns : List (List ℕ) → HostState → HostState → Status → Type 0
AcceptedRuns words old new status = (elf tables elf_bytes table_bytes : List ℕ) → words ≡ codes "check" ∷ elf ∷ tables ∷ [] → status ≡ Done
    → old.content Elf elf ≡ Some elf_bytes → old.content Second tables ≡ Some table_bytes → RunsAsSaid elf_bytes table_bytes old new

-- The output is closed. What was written spells a file that is accepted over the image, with the run's exit code and
-- public bytes; its segments have as many valid rows as the run is cut to steps, and its rows spell the hints that the run
-- takes. The line says so.
pub record ProvedAsSaid (loaded : Loaded) (hints lengths : List ℕ) (steps code : ℕ) (public_bytes : List ℕ) (old new : HostState) : Type 0 where
  pub closed : new.output.creating ≡ false
  pub written : IfSome new.output.written (SpellsRun program_tables 1 loaded hints lengths code public_bytes)
  pub said : new.said ≡ then_more old.said (line_of_proved code (encode_lower public_bytes) (length lengths) steps)

-- The words are `prove ELF HINTS OUT N`, over two files that the host tells: an ELF file with an image, and hints on which
-- the manual's machine ends, in at most 4,096 segments of at most N steps. Where no fault rose, the status is 0, or 7 for
-- want of memory.
abbrev pub EndingRunsAreProved : List (List ℕ) → HostState → HostState → Status → Type 0
EndingRunsAreProved words old new status =
    (elf hints out elf_bytes hint_bytes lengths public_bytes : List ℕ) (per_segment steps code : ℕ) (loaded : Loaded)
    → words ≡ codes "prove" ∷ elf ∷ hints ∷ out ∷ decimal per_segment ∷ [] → 1 ≤ per_segment → per_segment ≤ 16384
    → old.content Elf elf ≡ Some elf_bytes → old.content Second hints ≡ Some hint_bytes → length elf_bytes ≤ MAX_FILE → length hint_bytes ≤ MAX_FILE
    → HasImage elf_bytes loaded → EndsCut loaded hint_bytes per_segment steps lengths code public_bytes → (Rose old.faults new.faults → ⊥)
    → (status ≡ NoMemory) ⊎ ((status ≡ Done) × ProvedAsSaid loaded hint_bytes lengths steps code public_bytes old new)

-- what a call with these words did
pub record Headline (words : List (List ℕ)) (old new : HostState) (status : Status) : Type 0 where
  pub accepted : AcceptedRuns words old new status
  pub proved : EndingRunsAreProved words old new status
