-- A reason exists exactly where a file is not accepted.
use Rattle.std.specs.Prelude.{◌≡◌, ℕ, ◌≤◌, ◌↔◌, true, List, Option, Some, None}
use Rattle.elf_image.specs.Loaded.{Loaded}
use Rattle.readings.specs.Readings.{first_reason}
use Rattle.readings.specs.Exact.{IsBytes}
use Rattle.vm_isa.specs.declared.instr.VmInstr.{VmInstr}
use Rattle.vm_isa.specs.Blocks.{Terminates}
use Rattle.vm_trace.specs.Canonical.{IsCanonicalSegment}
use Rattle.vm_trace.specs.File.{Segment, File}
use Rattle.vm_trace.specs.Limits.{limits_of}
use Rattle.air_core.specs.System.{System}
use Rattle.acceptance.specs.Accepts.{Accepts, shape_of}
use Rattle.acceptance.specs.Holds.{SegmentHolds}
use Rattle.table_format.specs.declared.reason.Reason.TheVariants.{Trailing}
use Rattle.table_format.specs.Order.{first_stand, piece}
use Rattle.table_format.specs.Texts.{file_text, piece_text}
use Rattle.vm_transpile.specs.Program.{program_of}
use Rattle.vm_checker.specs.declared.Before.{Before}
use Rattle.vm_checker.specs.FirstReason.{rejection, segment_tests}

-- ---- a segment

-- it begins there, where that is known
abbrev pub BeginsAt : Option Before → Segment → Type 0
BeginsAt None s = Unit {0}
BeginsAt (Some start) s = (s.start_root ≡ start.root) × (s.pc_start ≡ start.pc)

-- a TERMINATE stands where it ends, if it says that it does
abbrev pub EndsAtATerminate : List VmInstr → Segment → Type 0
EndsAtATerminate program s = s.ends ≡ true → (code : ℕ) × Terminates program s.pc_end code

-- a segment that holds, and begins and ends as it must
pub record SegmentStands (x : System) (program : List VmInstr) (start : Option Before) (s : Segment) : Type 0 where
  pub holds : SegmentHolds x program s
  pub begins : BeginsAt start s
  pub ends : EndsAtATerminate program s

-- Of a segment alone, wherever it stands and wherever it is to begin, no test fails exactly where it is one of the form
-- that does.
abbrev pub SegmentRejectedExactly : Type 0
SegmentRejectedExactly = (x : System) (image : Loaded) (version : ℕ) (start : Option Before) (bytes : List ℕ) → IsBytes bytes
    → (first_reason Trailing (piece (limits_of version) (shape_of x image) (segment_tests x (program_of image) (λ at. start)) first_stand) bytes ≡ None)
    ↔ ((s : Segment) × (IsCanonicalSegment (limits_of version) (shape_of x image) s × SegmentStands x (program_of image) start s) × (bytes ≡ piece_text s))

-- ---- a file

-- the extension of each version up to the greatest keeps that version's times
abbrev pub KeepTimes : (ℕ → System) → ℕ → Type 0
KeepTimes x greatest = (version : ℕ) → 1 ≤ version → version ≤ greatest → (x version).time_bits ≡ (limits_of version).time_bits

-- these bytes are a file that is accepted, of a version up to the greatest
pub record IsAcceptedFile (x : ℕ → System) (image : Loaded) (greatest : ℕ) (bytes : List ℕ) (f : File) : Type 0 where
  pub version : f.version ≤ greatest
  pub accepts : Accepts (x f.version) image f
  pub text : bytes ≡ file_text f

-- No test fails exactly where the bytes are such a file.
abbrev pub RejectedExactly : Type 0
RejectedExactly = (x : ℕ → System) (image : Loaded) (greatest : ℕ) (bytes : List ℕ) → KeepTimes x greatest → IsBytes bytes
    → (rejection x image greatest bytes ≡ None) ↔ ((f : File) × IsAcceptedFile x image greatest bytes f)

-- And they are one such file only.
abbrev pub AcceptedFileIsOne : Type 0
AcceptedFileIsOne = (x : ℕ → System) (image : Loaded) (greatest : ℕ) (bytes : List ℕ) (f g : File) → IsAcceptedFile x image greatest bytes f → IsAcceptedFile x image greatest bytes g → f ≡ g
