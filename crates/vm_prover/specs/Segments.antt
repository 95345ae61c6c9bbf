-- A segment as it is made: its records, and what stands with it.
use Rattle.std.specs.Prelude.{◌≡◌, ℕ, ◌+◌, ◌<◌, ◌≤◌, Bool, true, false, List, [], ◌∷◌, ◌++◌, flat_map, get_or, length, sum, None, IfSome, OnOk, Result}
use Rattle.elf_image.specs.Loaded.{Loaded}
use Rattle.rv_run.specs.Run.{Ends}
use Rattle.vm_host.specs.declared.HostError.{HostError}
use Rattle.vm_host.specs.declared.Place.TheVariants.{Out}
use Rattle.vm_host.specs.Calls.{GrowsByPart, HasCause}
use Rattle.vm_host.specs.State.{HostState, then_more}
use Rattle.vm_isa.specs.declared.instr.VmInstr.{VmInstr}
use Rattle.vm_isa.specs.declared.record.StepRecord.{StepRecord}
use Rattle.vm_isa.specs.Hints.{Hints}
use Rattle.vm_trace.specs.File.{Segment}
use Rattle.air_core.specs.ExtensionLaws.{ExtensionFits}
use Rattle.air_core.specs.System.{System}
use Rattle.page_tree.specs.Tree.{Leaves}
use Rattle.vm_transpile.specs.Program.{program_of}
use Rattle.vm_executor.specs.Machine.{Machine, begun}
use Rattle.table_format.specs.declared.table_writer.TableWriter.{TableWriter}
use Rattle.table_format.specs.Texts.{head_text, piece_text}
use Rattle.table_format.specs.Writing.{IsMadeOf, IsSegmentOf}
use Rattle.vm_prover.specs.Progress.{CanProve, Progress, UnderWay}
use Rattle.vm_prover.specs.declared.plan.Ending.{Ending}
use Rattle.vm_prover.specs.declared.segment.Parts.{Parts}
use Rattle.vm_prover.specs.Proving.{SpellsRun}

-- a run that ends and can be proved with an extension
pub record Run (x : System) : Type 0 where
  pub fits : ExtensionFits x
  pub version : ℕ
  pub image : Loaded
  pub hints : Hints
  pub can : CanProve x version image hints
  pub steps : ℕ
  pub code : ℕ
  pub public_bytes : List ℕ
  pub ends : Ends image hints steps code public_bytes

-- From a machine, which has run so many steps of it, so many more go on.
pub record GoesOnFor {x : System} (run : Run x) (program : List VmInstr) (from : Machine) (steps count : ℕ) : Type 0 where
  pub over : program ≡ program_of run.image
  pub under : UnderWay x run.image run.hints from steps [] (begun from)
  pub within : steps + count ≤ run.steps
  pub few : count ≤ 16384

-- these are their records
pub record AreTaken {x : System} (run : Run x) (from : Machine) (steps count : ℕ) (done : List StepRecord) (m : Machine) : Type 0 where
  pub under : UnderWay x run.image run.hints from steps done m
  pub count_is : length done ≡ count

-- Whole segments of these lengths lead to a machine, and its memory to these leaves.
abbrev pub SegmentsStand : {x : System} → Run x → Bool → List Segment → List ℕ → Machine → Leaves → Type 0
SegmentsStand {x} run ended segments lengths m leaves = Progress x run.version run.image run.hints ended segments lengths m leaves

-- None of them ends the run, and behind them so many steps more go on.
pub record IsReadyFor {x : System} (run : Run x) (program : List VmInstr) (m : Machine) (leaves : Leaves) (segments : List Segment) (lengths : List ℕ) (count : ℕ) : Type 0 where
  pub over : program ≡ program_of run.image
  pub stand : SegmentsStand run false segments lengths m leaves
  pub within : sum lengths + count ≤ run.steps
  pub few : count ≤ 16384

-- One segment more, which has these parts.
pub record IsMade {x : System} (run : Run x) (ends : Bool) (segments : List Segment) (lengths : List ℕ) (count : ℕ) (m : Machine) (leaves : Leaves) (parts : Parts) : Type 0 where
  pub segment : Segment
  pub made : IsMadeOf parts.connector parts.opening.start parts.opening.end parts.tables parts.pages.items parts.opening.siblings.items segment
  pub stand : SegmentsStand run ends (segments ++ segment ∷ []) (lengths ++ count ∷ []) m leaves

-- ---- what is written

-- the writer has begun a file of this version, and answered no error
pub record IsWriting (version : ℕ) (w : TableWriter) : Type 0 where
  pub version_is : w.version ≡ version
  pub unfinished : w.finished ≡ false
  pub sound : w.error ≡ None

-- The output stands open, with the head and whole segments that lead to a machine.
pub record IsWritten {x : System} (run : Run x) (ended : Bool) (lengths : List ℕ) (m : Machine) (leaves : Leaves) (w : TableWriter) (s : HostState) : Type 0 where
  pub segments : List Segment
  pub stand : SegmentsStand run ended segments lengths m leaves
  pub told : IfSome s.output.written (λ bytes. bytes ≡ head_text run.version ++ flat_map piece_text segments)
  pub creating : s.output.creating ≡ true
  pub writing : IsWriting run.version w

-- the lengths of segments of a whole run of so many steps
pub record IsPlan (steps : ℕ) (lengths : List ℕ) : Type 0 where
  pub all : sum lengths ≡ steps
  pub some : 1 ≤ length lengths
  pub few : length lengths ≤ 4096
  pub short : (k d : ℕ) → k < length lengths → get_or lengths k d ≤ 16384

-- nothing but the head is written, and segments of these lengths are to follow
pub record IsToWrite {x : System} (run : Run x) (program : List VmInstr) (lengths : List ℕ) (m : Machine) (leaves : Leaves) (w : TableWriter) (s : HostState) : Type 0 where
  pub over : program ≡ program_of run.image
  pub plan : IsPlan run.steps lengths
  pub written : IsWritten run false [] m leaves w s

-- The output stands open and has the head of the version that its writer writes.
pub record IsBegun (w : TableWriter) (s : HostState) : Type 0 where
  pub told : IfSome s.output.written (λ bytes. bytes ≡ head_text w.version)
  pub creating : s.output.creating ≡ true
  pub writing : IsWriting w.version w

-- how a run ends, and its segments
pub record IsEnding (image : Loaded) (hints : Hints) (ending : Ending) : Type 0 where
  pub ends : Ends image hints ending.steps ending.code ending.public
  pub plan : IsPlan ending.steps ending.lengths.items

-- the whole file of the run was written, and its output closed
pub record IsWholeFile (x : System) (version : ℕ) (image : Loaded) (hints : Hints) (ending : Ending) (s : HostState) : Type 0 where
  pub closed : s.output.creating ≡ false
  pub written : IfSome s.output.written (SpellsRun x version image hints ending.lengths.items ending.code ending.public)

-- What writing a file does: it has a cause for failing, hands over the name, and changes nothing but the output.
pub record WritesFile (x : System) (version : ℕ) (image : Loaded) (hints : Hints) (ending : Ending) (name : List ℕ) (s t : HostState) (result : Result (Unit {0}) HostError) : Type 0 where
  pub cause : HasCause s.faults t.faults result
  pub named : GrowsByPart s.named t.named ((Out, name) ∷ [])
  pub frame : t ≡ record s { faults = t.faults; output = t.output; named = t.named; content = t.content }
  pub whole : OnOk result (IsWholeFile x version image hints ending t × (t.named ≡ then_more s.named ((Out, name) ∷ [])))

-- a call that goes on with an output: it writes, and may fail
pub record GoesOnWriting {T : Type 0} (s t : HostState) (result : Result T HostError) : Type 0 where
  pub cause : HasCause s.faults t.faults result
  pub frame : t ≡ record s { faults = t.faults; output = t.output }

-- the parts are those of a segment of the form, of this version
abbrev pub IsSegmentOfParts : ℕ → Parts → Segment → Type 0
IsSegmentOfParts version parts segment = IsSegmentOf version parts.connector parts.opening.start parts.opening.end parts.tables parts.pages.items parts.opening.siblings.items segment

-- a segment was written behind what was written, and the file goes on
pub record WritesPiece (version : ℕ) (segment : Segment) (w : TableWriter) (s t : HostState) : Type 0 where
  pub written : t.output.written ≡ then_more s.output.written (piece_text segment)
  pub creating : t.output.creating ≡ true
  pub writing : IsWriting version w

-- the same host, with an output that went on, and maybe more faults
pub record IsLater (s t : HostState) : Type 0 where
  pub later : s.faults ≤ t.faults
  pub frame : t ≡ record s { faults = t.faults; output = t.output }
