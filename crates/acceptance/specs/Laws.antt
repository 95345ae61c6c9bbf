-- What an accepted file says. Each law is the contract of a function in src/laws.rt.
use Rattle.std.specs.Prelude.{◌≡◌, ℕ, ◌+◌, ◌<◌, ◌≤◌, ◌⊎◌, List, [], length, All}
use Rattle.std.specs.List.{AllByRecursion}
use Rattle.elf_image.specs.Image.{HasImage}
use Rattle.elf_image.specs.Loaded.{Loaded}
use Rattle.rv_run.specs.Run.{Ends}
use Rattle.vm_isa.specs.declared.instr.VmInstr.{VmInstr}
use Rattle.vm_isa.specs.Blocks.{Blocks, Terminates, VmGoes, VmEnds}
use Rattle.vm_isa.specs.Instr.{InRange}
use Rattle.vm_isa.specs.Words.{IsBytes}
use Rattle.vm_transpile.specs.Program.{program_of}
use Rattle.vm_transpile.specs.Start.{vm_start}
use Rattle.vm_field.specs.Field.{modulus}
use Rattle.air_core.specs.declared.event.Event.{Event}
use Rattle.air_core.specs.Balance.{Balanced, BalancedOn}
use Rattle.air_core.specs.Totals.{SameTotals, is_bus}
use Rattle.air_core.specs.System.{System}
use Rattle.air_core.specs.Join.{single}
use Rattle.gadget_time.specs.Nop.{nop_sheet}
use Rattle.exec_path.specs.Path.{Point, slot_sum}
use Rattle.exec_path.specs.PathEvents.{execution_events}
use Rattle.vm_trace.specs.declared.page.Touched.{Touched}
use Rattle.vm_trace.specs.PageBlocks.{ArePages, HasOldWords, HasNewWords}
use Rattle.offline_memory.specs.MemoryEvents.{memory_events}
use Rattle.offline_memory.specs.Pages.{DistinctLabels}
use Rattle.acceptance.specs.OneRun.{RowStep, TableRow, RowSays, NotOn, OneRun, accesses_of, timed_rows, steps_of, run_events}
use Rattle.acceptance.specs.BlockRun.{StepsMeet, after_steps}
use Rattle.vm_trace.specs.File.{Segment, File}
use Rattle.acceptance.specs.Events.{valid_rows}
use Rattle.acceptance.specs.Example.{BeginsStill, IsVersion, resting_file, stepping_file}
use Rattle.acceptance.specs.Holds.{SegmentHolds}
use Rattle.acceptance.specs.Spelled.{HintEvent, SegmentSpells, Spell, hints_before}
use Rattle.acceptance.specs.Accepts.{ClaimHolds, Accepts, steps_in, IsHeld, Collides}

-- Steps in time are one run, where the execution bus has the sums of the connector and their rows, the
-- memory bus those of the pages and their accesses, and both balance. The start's time and all slots
-- are within a bound below p, up to which the rows' tables keep times.
abbrev pub BalancedStepsAreOneRun : Type 0
BalancedStepsAreOneRun = (bound : ℕ) (start end : Point) (pages : List Touched) (rows : List TableRow) (events : List Event)
    → AllByRecursion (RowSays bound) rows → DistinctLabels pages
    → start.time + slot_sum (timed_rows (steps_of rows)) ≤ bound → bound < modulus
    → BalancedOn (is_bus 0) events → SameTotals 0 events (execution_events start end (timed_rows (steps_of rows)))
    → BalancedOn (is_bus 2) events → SameTotals 2 events (memory_events pages (accesses_of (steps_of rows)))
    → OneRun start end pages (steps_of rows)

-- The same from all events of a segment. The rows are those of any tables; the others are the events of
-- the program and of lookup tables.
abbrev pub BalancedSegmentIsOneRun : Type 0
BalancedSegmentIsOneRun = (bound : ℕ) (start end : Point) (pages : List Touched) (rows : List TableRow) (others : List Event)
    → AllByRecursion (RowSays bound) rows → NotOn 0 others → NotOn 2 others → DistinctLabels pages
    → start.time + slot_sum (timed_rows (steps_of rows)) ≤ bound → bound < modulus
    → Balanced (run_events start end pages rows others) → OneRun start end pages (steps_of rows)

-- Such a run is one on the virtual machine's blocks, where these have the pages' old words, and the pages
-- lie in their spaces: each step finds its old words in the blocks that the steps before it left, and the
-- last blocks have the pages' new words, and elsewhere what the first ones had.
abbrev pub RunsMeetBlocks : Type 0
RunsMeetBlocks = (start end : Point) (pages : List Touched) (steps : List RowStep) (run : OneRun start end pages steps) (blocks : Blocks)
    → DistinctLabels pages → ArePages pages → HasOldWords pages blocks
    → StepsMeet blocks run.path × HasNewWords pages blocks (after_steps blocks run.path)

-- what a segment leads to, from blocks that have its pages' old words
pub record SegmentRuns (program : List VmInstr) (s : Segment) (n : ℕ) (blocks : Blocks) (hints : List HintEvent) (rest : List ℕ) : Type 0 where
  pub after : Blocks
  pub goes : VmGoes program (record { pc = s.pc_start; blocks = blocks; hints = hints_before hints rest }) n (record { pc = s.pc_end; blocks = after; hints = rest })
  pub new : HasNewWords s.pages blocks after

-- A segment that holds is a run of as many steps as it has valid rows, whatever hints follow those that
-- it spells: it takes these and no more.
abbrev pub SegmentsAreRuns : System → Type 0
SegmentsAreRuns x = (program : List VmInstr) (s : Segment) (blocks : Blocks) (hints : List HintEvent) (rest : List ℕ) → All InRange program → SegmentHolds x program s
    → SegmentSpells x s hints → HasOldWords s.pages blocks → SegmentRuns program s (valid_rows x s) blocks hints rest

-- A file whose claim holds states a run on blocks, or two different nodes that are held have one digest.
abbrev pub AcceptedFilesAreRunsOnBlocks : System → Type 0
AcceptedFilesAreRunsOnBlocks x = (elf : List ℕ) (image : Loaded) (file : File) (hints : List HintEvent) → HasImage elf image → ClaimHolds x image file → Spell x file.segments hints
    → VmEnds (program_of image) (vm_start image (hints_before hints [])) (steps_in x file.segments) file.code file.public_bytes ⊎ Collides image file

-- And a run of the manual's machine, on the hints that it spells, of as many steps as it has valid rows,
-- with the exit code and the public bytes of its claim.
abbrev pub AcceptedFilesAreRuns : System → Type 0
AcceptedFilesAreRuns x = (elf : List ℕ) (image : Loaded) (file : File) (hints : List HintEvent) → IsBytes elf → HasImage elf image → ClaimHolds x image file → Spell x file.segments hints
    → Ends image (hints_before hints []) (steps_in x file.segments) file.code file.public_bytes ⊎ Collides image file

-- Such a file spells hints, and one list of them only.
abbrev pub AcceptedFilesSpell : System → Type 0
AcceptedFilesSpell x = (elf : List ℕ) (image : Loaded) (file : File) → HasImage elf image → ClaimHolds x image file → (hints : List HintEvent) × Spell x file.segments hints

abbrev pub AcceptedFilesSpellOneList : System → Type 0
AcceptedFilesSpellOneList x = (elf : List ℕ) (image : Loaded) (file : File) (a b : List HintEvent) → HasImage elf image → ClaimHolds x image file
    → Spell x file.segments a → Spell x file.segments b → a ≡ b

-- The nodes that such a file holds have 64 bytes each.
abbrev pub HeldNodesHave64Bytes : System → Type 0
HeldNodesHave64Bytes x = (image : Loaded) (file : File) (node : List ℕ) → ClaimHolds x image file → IsHeld image file node → length node ≡ 64

-- The file of no steps is accepted over an image with a TERMINATE at its entry, in each version whose times the
-- extension keeps: what is asked can be met.
abbrev pub RestingFilesAreAccepted : System → Type 0
RestingFilesAreAccepted x = (elf : List ℕ) (image : Loaded) (version code : ℕ) → HasImage elf image → IsVersion version x.time_bits → Terminates (program_of image) image.entry code
    → Accepts x image (resting_file x version image code)

-- Its claim holds whatever the version is, and wherever the image comes from.
abbrev pub RestingClaimsHold : System → Type 0
RestingClaimsHold x = (image : Loaded) (version code : ℕ) → Terminates (program_of image) image.entry code → ClaimHolds x image (resting_file x version image code)

-- So is the file of one no-operation accepted, over an image that begins with one before a TERMINATE.
abbrev pub SteppingFilesAreAccepted : Type 0
SteppingFilesAreAccepted = (elf : List ℕ) (image : Loaded) (hi version place code : ℕ) → HasImage elf image → IsVersion version (nop_sheet hi).time_bits → BeginsStill image place → Terminates (program_of image) (image.entry + 4) code
    → Accepts (single (nop_sheet hi)) image (stepping_file version image place code)
