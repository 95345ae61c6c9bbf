-- Which status an answer has, and the line that is said.
use Rattle.std.specs.Prelude.{ℕ, List, ◌++◌, length, codes}
use Rattle.std.specs.Fmt.{decimal}
use Rattle.std.specs.Int.{w32, to_be_bytes}
use Rattle.hex.specs.Hex.{encode_lower}
use Rattle.elf_image.specs.declared.ImageError.{ImageError}
use Rattle.elf_image.specs.declared.ImageError.TheVariants as image
use Rattle.rv_run.specs.declared.outcome.Cause.{Cause}
use Rattle.rv_run.specs.declared.outcome.Cause.TheVariants as cause
use Rattle.rv_run.specs.declared.outcome.Trap.{Trap}
use Rattle.vm_host.specs.declared.HostError.{HostError}
use Rattle.vm_host.specs.declared.HostError.TheVariants as host
use Rattle.table_format.specs.Reasons.{reason_text}
use Rattle.vm_tool.specs.declared.answer.Answer.{Answer}
use Rattle.vm_tool.specs.declared.answer.Answer.TheVariants as answer
use Rattle.vm_tool.specs.declared.answer.Status.{Status}
use Rattle.vm_tool.specs.Listing.{listing_of}
use Rattle.vm_tool.specs.declared.answer.Status.TheVariants as status

-- a refusal of a program file, in words; want of memory is none, and is never said
abbrev pub refusal_text : ImageError → List ℕ
refusal_text image.Short = codes "short"
refusal_text image.Magic = codes "magic"
refusal_text image.Class = codes "class"
refusal_text image.Order = codes "order"
refusal_text image.FileType = codes "file-type"
refusal_text image.Machine = codes "machine"
refusal_text image.Compressed = codes "compressed"
refusal_text image.HeaderSize = codes "header-size"
refusal_text image.HeaderTable = codes "header-table"
refusal_text image.SegmentSize = codes "segment-size"
refusal_text image.Truncated = codes "truncated"
refusal_text image.Range = codes "range"
refusal_text image.Overlap = codes "overlap"
refusal_text image.TextSize = codes "text-size"
refusal_text image.Entry = codes "entry"
refusal_text image.OutOfMemory = codes "out-of-memory"

abbrev pub cause_text : Cause → List ℕ
cause_text cause.NotText = codes "not-text"
cause_text cause.Undecoded = codes "undecoded"
cause_text cause.MisalignedTarget = codes "misaligned-target"
cause_text cause.Misaligned = codes "misaligned"
cause_text cause.OutOfRange = codes "out-of-range"
cause_text cause.HintsEnd = codes "hints-end"
cause_text cause.PublicIndex = codes "public-index"

abbrev pub status_of : Answer → Status
status_of answer.Words = status.Words
status_of answer.ElfTooLong = status.ElfRefused
status_of (answer.ElfRefused refusal) = status.ElfRefused
status_of answer.HintLimit = status.Limit
status_of answer.SegmentLimit = status.Limit
status_of (answer.Exit code public_bytes steps) = status.Done
status_of (answer.Listing rows) = status.Done
status_of (answer.Accepted accepted) = status.Done
status_of (answer.Proved claim) = status.Done
status_of (answer.Sampled number claim) = status.Done
status_of (answer.Rejected reason) = status.Rejected
status_of (answer.Trapped trap) = status.Trapped
status_of (answer.StepLimit limit) = status.Limit

-- the status where the host failed, or memory was refused
abbrev pub status_of_error : HostError → Status
status_of_error host.Failed = status.HostFault
status_of_error host.OutOfMemory = status.NoMemory

-- 64 public bytes as 128 digits, with the exit code and the number of steps
abbrev pub line_of_exit : ℕ → List ℕ → ℕ → List ℕ
line_of_exit code digits steps =
    codes "exit " ++ decimal code ++ codes " public " ++ digits ++ codes " steps " ++ decimal steps ++ codes "\n"

-- what a table file claims: 64 public bytes as 128 digits, with the exit code, the segments and a count by its name
abbrev pub line_of_claim : List ℕ → ℕ → List ℕ → ℕ → List ℕ → ℕ → List ℕ
line_of_claim name code digits segments counted count =
    name ++ codes " exit " ++ decimal code ++ codes " public " ++ digits ++ codes " segments " ++ decimal segments
    ++ codes " " ++ counted ++ codes " " ++ decimal count ++ codes "\n"

-- an accepted file, and how many hint bytes its run takes
abbrev pub line_of_accepted : ℕ → List ℕ → ℕ → ℕ → List ℕ
line_of_accepted code digits segments hints = line_of_claim (codes "accepted") code digits segments (codes "hint-bytes") hints

-- a file that was written, and how many steps its run has
abbrev pub line_of_proved : ℕ → List ℕ → ℕ → ℕ → List ℕ
line_of_proved code digits segments steps = line_of_claim (codes "proved") code digits segments (codes "steps") steps

-- the file of a sample that was written
abbrev pub line_of_sample : ℕ → ℕ → ℕ → List ℕ → ℕ → List ℕ
line_of_sample number steps code digits segments =
    codes "sample " ++ decimal number ++ codes " steps " ++ decimal steps ++ codes " exit " ++ decimal code
    ++ codes " public " ++ digits ++ codes " segments " ++ decimal segments ++ codes "\n"

-- a trap: its cause, and its pc as eight digits
abbrev pub line_of_trap : Trap → List ℕ
line_of_trap trap = codes "trap " ++ cause_text trap.cause ++ codes " at " ++ encode_lower (to_be_bytes w32 trap.pc) ++ codes "\n"

-- the line or lines that are said
abbrev pub text_of : Answer → List ℕ
text_of answer.Words = codes "words\n"
text_of answer.ElfTooLong = codes "elf too-long\n"
text_of (answer.ElfRefused refusal) = codes "elf " ++ refusal_text refusal ++ codes "\n"
text_of answer.HintLimit = codes "limit hints 67108864\n"
text_of (answer.Exit code public_bytes steps) = line_of_exit code (encode_lower public_bytes) steps
text_of (answer.Listing rows) = listing_of rows
text_of (answer.Accepted accepted) = line_of_accepted accepted.code (encode_lower accepted.public) accepted.segments (length accepted.hints)
text_of (answer.Proved claim) = line_of_proved claim.code (encode_lower claim.public) claim.segments claim.steps
text_of (answer.Sampled number claim) = line_of_sample number claim.steps claim.code (encode_lower claim.public) claim.segments
text_of (answer.Rejected reason) = codes "rejected " ++ reason_text reason ++ codes "\n"
text_of (answer.Trapped trap) = line_of_trap trap
text_of answer.SegmentLimit = codes "limit segments 4096\n"
text_of (answer.StepLimit limit) = codes "limit steps " ++ decimal limit ++ codes "\n"

-- the number that the process ends with
abbrev pub code_of : Status → ℕ
code_of status.Done = 0
code_of status.Rejected = 1
code_of status.Words = 2
code_of status.ElfRefused = 3
code_of status.HostFault = 4
code_of status.Trapped = 5
code_of status.Limit = 6
code_of status.NoMemory = 7
