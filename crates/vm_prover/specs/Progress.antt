-- Whole segments, one after the other, as a prover writes them, and the records of the one that is under way.
use Rattle.std.specs.Prelude.{◌≡◌, ◌≢◌, ℕ, ◌+◌, ◌*◌, ◌≤◌, Bool, true, false, List, length, map, sum, Contains}
use Rattle.std.specs.List.{AllByRecursion}
use Rattle.elf_image.specs.Image.{IsOfAFile}
use Rattle.elf_image.specs.Loaded.{Loaded}
use Rattle.rv_run.specs.Machine.{Machine as Manual}
use Rattle.rv_run.specs.Run.{Goes}
use Rattle.vm_isa.specs.declared.instr.VmInstr.{VmInstr}
use Rattle.vm_isa.specs.declared.record.StepRecord.{StepRecord}
use Rattle.vm_isa.specs.Hints.{Hints}
use Rattle.vm_isa.specs.Means.{Fillable}
use Rattle.vm_isa.specs.Opcodes.{TERMINATE}
use Rattle.vm_isa.specs.Words.{IsBytes}
use Rattle.vm_trace.specs.declared.page.TheConstants.{PUBLIC_LABEL}
use Rattle.vm_trace.specs.declared.page.Touched.{Touched}
use Rattle.vm_trace.specs.Canonical.{IsCanonicalSegment, height_of}
use Rattle.vm_trace.specs.Contents.{Contents}
use Rattle.vm_trace.specs.File.{Segment, File}
use Rattle.vm_trace.specs.Limits.{limits_of}
use Rattle.air_core.specs.System.{System, is_owned}
use Rattle.page_tree.specs.MapBlocks.{AreBlocksOf}
use Rattle.page_tree.specs.Opening.{siblings_of}
use Rattle.page_tree.specs.Parts.{labels_of, with_pages}
use Rattle.page_tree.specs.Path.{path_of}
use Rattle.page_tree.specs.Start.{start_map}
use Rattle.page_tree.specs.Tree.{Leaves, root}
use Rattle.vm_transpile.specs.Program.{program_of}
use Rattle.table_format.specs.declared.item.Connector.{Connector}
use Rattle.vm_executor.specs.Machine.{Machine, Since}
use Rattle.vm_executor.specs.Runs.{Ran, starting}
use Rattle.acceptance.specs.Accepts.{Accepts, AreLinked, OnlyLastEnds, last_pc, last_root, shape_of, steps_in}
use Rattle.acceptance.specs.Events.{valid_rows}
use Rattle.acceptance.specs.Example.{IsVersion}
use Rattle.acceptance.specs.Holds.{SegmentHolds}
use Rattle.acceptance.specs.Spelled.{HintEvent, Spell, hints_before}
use Rattle.vm_filler.specs.Hints.{hints_of}
use Rattle.vm_filler.specs.Segment.{filled_segment}

-- each row of a program but TERMINATE is of a table
pub record OwnsRows (x : System) (program : List VmInstr) : Type 0 where
  pub owned : (row : VmInstr) → Contains program row → row.op ≢ TERMINATE → is_owned x.parts row.op ≡ true

-- What a run of an image on hints needs to be proved in a version: the extension keeps the times of the version and has
-- tables for the program's rows.
pub record CanProve (x : System) (version : ℕ) (image : Loaded) (hints : Hints) : Type 0 where
  pub numbers : IsVersion version x.time_bits
  pub file : IsOfAFile image
  pub bytes : IsBytes hints
  pub owns : OwnsRows x (program_of image)

-- ---- the segment under way

-- The records of a segment that began with a machine, after so many steps of the run, and lead to this one.
pub record UnderWay (x : System) (image : Loaded) (hints : Hints) (from : Machine) (steps : ℕ) (done : List StepRecord) (m : Machine) : Type 0 where
  pub since : Since (program_of image) from.pc done m
  pub ran : Ran (program_of image) (starting image hints) (steps + length done) m
  pub fillable : AllByRecursion (Fillable x.time_bits) done
  pub owned : AllByRecursion (λ d. is_owned x.parts d.instr.op ≡ true) done
  pub in_time : m.time ≤ 1 + 26 * length done
  pub began : m.start ≡ from.now
  pub taken : hints_before (hints_of done) m.hints ≡ from.hints
  pub bytes : IsBytes m.hints

-- ---- whole segments

-- none of them says that it ends, or the last one does and no other
abbrev pub EndsBy : Bool → List Segment → Type 0
EndsBy false segments = AllByRecursion (λ s. s.ends ≡ false) segments
EndsBy true segments = OnlyLastEnds segments

-- What stands after whole segments of these lengths: they hold and follow one another from the image on; the machine
-- has run as many steps, has the hints behind those that they spell, and its memory is the leaves.
pub record Progress (x : System) (version : ℕ) (image : Loaded) (hints : Hints) (ended : Bool) (segments : List Segment) (lengths : List ℕ) (m : Machine) (leaves : Leaves) : Type 0 where
  pub canonical : AllByRecursion (IsCanonicalSegment (limits_of version) (shape_of x image)) segments
  pub hold : AllByRecursion (SegmentHolds x (program_of image)) segments
  pub linked : AreLinked image.entry (root (start_map image)) segments
  pub ends : EndsBy ended segments
  pub pc_is : last_pc image.entry segments ≡ m.pc
  pub root_is : last_root (root (start_map image)) segments ≡ root leaves
  pub rows : map (valid_rows x) segments ≡ lengths
  pub ran : Ran (program_of image) (starting image hints) (sum lengths) m
  pub spelled : List HintEvent
  pub spell : Spell x segments spelled
  pub taken : hints_before spelled m.hints ≡ hints
  pub bytes : IsBytes m.hints
  pub blocks : AreBlocksOf leaves m.now
  pub whole : (label : ℕ) → length (leaves label) ≡ 64

-- ---- one segment more, and the file

-- as many records fit into a segment of the version
pub record FitsVersion (version number : ℕ) : Type 0 where
  pub few : number ≤ 65536
  pub rows : 64 * number ≤ height_of (limits_of version).greatest_code

-- The segment of records that begin with a machine: the leaves are its memory, and open the pages that the records touch.
abbrev pub segment_from : Machine → List StepRecord → Contents → Bool → Leaves → List Touched → Segment
segment_from from done c ends leaves pages =
    filled_segment from.pc done c ends (root leaves) (root (with_pages leaves pages)) pages (siblings_of leaves (labels_of pages))

-- the file of segments and a claim: the public bytes and their path are those of a tree
abbrev pub file_of : ℕ → List Segment → ℕ → Leaves → File
file_of version segments code leaves = record {
  version = version;
  segments = segments;
  code = code;
  public_bytes = leaves PUBLIC_LABEL;
  path = path_of leaves PUBLIC_LABEL;
}

-- These are the hints that so many steps of the manual's machine take: its state after them has those behind.
pub record TakesHints (image : Loaded) (hints : Hints) (steps : ℕ) (events : List HintEvent) : Type 0 where
  pub last : Manual
  pub reached : Goes image hints steps last
  pub taken : hints_before events last.hints ≡ hints

-- A file is accepted and states a run on these hints that was cut into segments of these lengths, and ended so: each
-- segment has as many valid rows, and together they spell the hints that the run takes.
pub record StatesRun (x : System) (image : Loaded) (hints : Hints) (lengths : List ℕ) (code : ℕ) (public_bytes : List ℕ) (file : File) : Type 0 where
  pub accepts : Accepts x image file
  pub code_is : file.code ≡ code
  pub public_are : file.public_bytes ≡ public_bytes
  pub rows : map (valid_rows x) file.segments ≡ lengths
  pub steps_are : steps_in x file.segments ≡ sum lengths
  pub spelled : List HintEvent
  pub spell : Spell x file.segments spelled
  pub takes : TakesHints image hints (sum lengths) spelled

-- where a segment begins and ends that leads from a machine to another
abbrev pub connector_between : Machine → Machine → Bool → Connector
connector_between from m ends = record { pc_start = from.pc; pc_end = m.pc; end_time = m.time; ends = ends }
