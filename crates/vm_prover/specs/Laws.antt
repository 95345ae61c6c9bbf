-- What whole segments come to. Each law is the contract of a function in src/laws.rt.
use Rattle.std.specs.Prelude.{◌≡◌, ℕ, ◌+◌, ◌<◌, ◌≤◌, Bool, true, false, List, [], ◌∷◌, ◌++◌, length, sum, take, slice_get, Some}
use Rattle.std.specs.List.Sorted.{IsStrictlyIncreasing}
use Rattle.elf_image.specs.Image.{IsOfAFile}
use Rattle.elf_image.specs.Loaded.{Loaded}
use Rattle.rv_run.specs.Run.{Ends}
use Rattle.vm_isa.specs.declared.record.StepRecord.{StepRecord}
use Rattle.vm_isa.specs.Hints.{Hints}
use Rattle.vm_isa.specs.Opcodes.{has_meaning}
use Rattle.vm_isa.specs.Words.{IsBytes}
use Rattle.vm_trace.specs.declared.page.Touched.{Touched}
use Rattle.vm_trace.specs.Contents.{Contents}
use Rattle.vm_trace.specs.File.{Segment}
use Rattle.air_core.specs.System.{System, is_owned}
use Rattle.page_tree.specs.Kept.{put_at}
use Rattle.page_tree.specs.Opening.{siblings_of}
use Rattle.page_tree.specs.Parts.{labels_of, with_pages}
use Rattle.page_tree.specs.Start.{start_map}
use Rattle.page_tree.specs.Tree.{Leaves, root}
use Rattle.vm_transpile.specs.Program.{program_of}
use Rattle.vm_executor.specs.declared.machine.Machined.{Machined}
use Rattle.vm_executor.specs.declared.machine.Machined.TheVariants.{Ended}
use Rattle.vm_executor.specs.Machine.{Machine, Goes, begun}
use Rattle.vm_executor.specs.Pages.{AreTouched}
use Rattle.vm_executor.specs.Records.{AreRecords}
use Rattle.vm_executor.specs.Runs.{IsWent, Ran, starting}
use Rattle.vm_executor.specs.State.{IsStep}
use Rattle.vm_filler.specs.Segment.{SegmentFilled}
use Rattle.table_format.specs.Writing.{IsSegmentOf}
use Rattle.vm_prover.specs.Progress.{CanProve, OwnsRows, UnderWay, Progress, FitsVersion, StatesRun, segment_from, file_of, connector_between}

-- tables for all opcodes of steps are tables for the rows of every program
abbrev pub AllOpcodesOwnRows : System → Type 0
AllOpcodesOwnRows x = (image : Loaded) → IsOfAFile image → ((op : ℕ) → has_meaning op ≡ true → is_owned x.parts op ≡ true) → OwnsRows x (program_of image)

-- before the first segment
abbrev pub NoSegmentsStand : System → Type 0
NoSegmentsStand x = (version : ℕ) (image : Loaded) (hints : Hints) → CanProve x version image hints
    → Progress x version image hints false [] [] (starting image hints) (start_map image)

-- a segment begins after whole ones
abbrev pub SegmentsComeUnderWay : System → Type 0
SegmentsComeUnderWay x = (version : ℕ) (image : Loaded) (hints : Hints) (ended : Bool) (segments : List Segment) (lengths : List ℕ) (m : Machine) (leaves : Leaves)
    → Progress x version image hints ended segments lengths m leaves → UnderWay x image hints m (sum lengths) [] (begun m)

-- and has a record more with each step
abbrev pub RecordsGoOn : System → Type 0
RecordsGoOn x = (version : ℕ) (image : Loaded) (hints : Hints) (from s t : Machine) (steps : ℕ) (done : List StepRecord) (d : StepRecord) → CanProve x version image hints
    → UnderWay x image hints from steps done s → length done < 65536 → Goes (program_of image) s t d → UnderWay x image hints from steps (done ++ d ∷ []) t

-- its records can be filled
abbrev pub RecordsCanBeFilled : System → Type 0
RecordsCanBeFilled x = (image : Loaded) (hints : Hints) (from m : Machine) (steps : ℕ) (done : List StepRecord) → UnderWay x image hints from steps done m → length done ≤ 65536
    → AreRecords x (program_of image) from.pc done

-- a segment more
abbrev pub SegmentsGoOn : System → Type 0
SegmentsGoOn x = (version : ℕ) (image : Loaded) (hints : Hints) (segments : List Segment) (lengths : List ℕ) (from m : Machine) (leaves : Leaves) (done : List StepRecord) (c : Contents) (ends : Bool) (pages : List Touched)
    → CanProve x version image hints → Progress x version image hints false segments lengths from leaves → UnderWay x image hints from (sum lengths) done m → FitsVersion version (length done)
    → SegmentFilled x (program_of image) done c → AreTouched m.start m.now m.times pages
    → Progress x version image hints ends (segments ++ segment_from from done c ends leaves pages ∷ []) (lengths ++ length done ∷ []) m (with_pages leaves pages)

-- It is made of what a prover hands to a writer.
abbrev pub SegmentsAreMade : System → Type 0
SegmentsAreMade x = (version : ℕ) (image : Loaded) (hints : Hints) (segments : List Segment) (lengths : List ℕ) (from m : Machine) (leaves : Leaves) (done : List StepRecord) (c : Contents) (ends : Bool) (pages : List Touched)
    → CanProve x version image hints → Progress x version image hints false segments lengths from leaves → UnderWay x image hints from (sum lengths) done m → FitsVersion version (length done)
    → SegmentFilled x (program_of image) done c → AreTouched m.start m.now m.times pages
    → IsSegmentOf version (connector_between from m ends) (root leaves) (root (with_pages leaves pages)) c pages (siblings_of leaves (labels_of pages)) (segment_from from done c ends leaves pages)

-- Where the first pages of a segment were put into a tree, the next one gives the leaves with one page more.
abbrev pub PutsGoOn : Type 0
PutsGoOn = (leaves : Leaves) (pages : List Touched) (k : ℕ) (page : Touched) → IsStrictlyIncreasing (labels_of pages) → slice_get pages k ≡ Some page
    → put_at (with_pages leaves (take k pages)) page.label page.new ≡ with_pages leaves (take (k + 1) pages)

-- every version takes segments of 16,384 records
abbrev pub EachVersionTakes16384 : Type 0
EachVersionTakes16384 = (version number : ℕ) → number ≤ 16384 → FitsVersion version number

-- After the last one, where the run ends, the file is accepted and states the run.
abbrev pub EndedSegmentsProve : System → Type 0
EndedSegmentsProve x = (version : ℕ) (image : Loaded) (hints : Hints) (segments : List Segment) (lengths : List ℕ) (m : Machine) (leaves : Leaves) (code : ℕ) (public_bytes : List ℕ) → CanProve x version image hints
    → Progress x version image hints true segments lengths m leaves → 1 ≤ length lengths → length lengths ≤ 4096 → Ends image hints (sum lengths) code public_bytes
    → StatesRun x image hints lengths code public_bytes (file_of version segments code leaves)

-- On the way of a run that ends after n steps, each step goes on, and at its end the machine ends with its exit code.
abbrev pub EndingRunsGoOn : Type 0
EndingRunsGoOn = (image : Loaded) (hints : Hints) (n code : ℕ) (public_bytes : List ℕ) (k : ℕ) (m t : Machine) (answer : Machined) → IsOfAFile image → IsBytes hints → Ends image hints n code public_bytes
    → Ran (program_of image) (starting image hints) k m → IsStep (program_of image) m t answer
    → (k < n → IsWent answer) × (k ≡ n → answer ≡ Ended code)
