-- Why a file of tables is rejected: the tests that a check makes beside those of the file's form, item by item. Behind
-- which item each of them stands says the form's `Order`.
use Rattle.std.specs.Prelude.{ℕ, ◌+◌, ◌-◌, ◌*◌, ◌^◌, ◌==◌, Bool, true, false, ◌&&◌, ◌||◌, not, nat_eq, nat_lt, nat_le, find, List, [], ◌∷◌, length, map, slice_index, Option, Some, None, is_some, if◌then◌else◌}
use Rattle.std.specs.Option.{option_map, option_or, option_and_then}
use Rattle.elf_image.specs.Loaded.{Loaded}
use Rattle.readings.specs.Readings.{Reading, rest_at, reason_in, first_reason}
use Rattle.vm_isa.specs.declared.instr.VmInstr.{VmInstr}
use Rattle.vm_isa.specs.declared.opcode.TheConstants.{TERMINATE}
use Rattle.vm_trace.specs.declared.page.TheConstants.{REGISTER_LABEL, MEMORY_LABEL, PUBLIC_LABEL}
use Rattle.vm_trace.specs.declared.page.Touched.{Touched}
use Rattle.vm_trace.specs.Canonical.{Shape, height_of}
use Rattle.vm_trace.specs.File.{Segment, File}
use Rattle.vm_trace.specs.Limits.{limits_of}
use Rattle.vm_transpile.specs.Program.{program_of}
use Rattle.air_core.specs.declared.event.Event.{Event}
use Rattle.air_core.specs.First.{first_from}
use Rattle.air_core.specs.System.{System, Part, sheet_at}
use Rattle.bus_core.specs.declared.Unbalanced.{Unbalanced}
use Rattle.bus_core.specs.Least.{least_uneven}
use Rattle.page_tree.specs.Tree.{root}
use Rattle.page_tree.specs.Opening.{opening_root, siblings_needed}
use Rattle.page_tree.specs.Parts.{labels_of, old_bytes_at, new_bytes_at}
use Rattle.page_tree.specs.Path.{climb}
use Rattle.page_tree.specs.Start.{start_map}
use Rattle.acceptance.specs.Accepts.{shape_of}
use Rattle.acceptance.specs.Events.{segment_events}
use Rattle.table_format.specs.declared.reason.Reason.{Reason}
use Rattle.table_format.specs.declared.reason.Reason.TheVariants as reason
use Rattle.table_format.specs.Order.{want, same_bytes, PageAt, Stand, Tests, no_tests, segment, body, file}
use Rattle.vm_checker.specs.declared.Before.{Before}

-- ---- a segment by itself

-- the slots that tables of these heights have at most
abbrev pub slots_of : List Part → List ℕ → ℕ
slots_of [] codes = 0
slots_of (p ∷ ps) [] = 0
slots_of (p ∷ ps) (code ∷ codes) = height_of code * p.sheet.slots + slots_of ps codes

abbrev pub slots_test : System → ℕ → List ℕ → Option Reason
slots_test x segment codes = want (nat_lt (slots_of x.parts codes) (2 ^ x.time_bits)) (reason.SlotSum segment)

-- the first constraint that isn't 0
abbrev pub row_test : System → ℕ → ℕ → ℕ → List ℕ → Option Reason
row_test x segment table place row = option_map (reason.Row segment table place) (first_from 0 ((sheet_at x table).constraints row))

-- the label is one of the machine's
abbrev pub is_machine_label : ℕ → Bool
is_machine_label label = nat_eq label REGISTER_LABEL || (nat_eq label (REGISTER_LABEL + 1) || ((nat_le MEMORY_LABEL label && nat_lt label PUBLIC_LABEL) || nat_eq label PUBLIC_LABEL))

abbrev pub page_test : ℕ → PageAt → Touched → Option Reason
page_test segment place page =
    option_or (want (nat_le place.least page.label) (reason.PageOrder segment place.number)) (want (is_machine_label page.label) (reason.PageSpace segment place.number))

-- the least bus and tuple whose sums differ
abbrev pub uneven_reason : ℕ → Unbalanced → Reason
uneven_reason segment u = reason.Unbalanced segment u.bus u.tuple u.sent u.received

abbrev pub balance_test : ℕ → List Event → Option Reason
balance_test segment events = option_map (uneven_reason segment) (least_uneven events)

abbrev pub number_test : ℕ → List Touched → ℕ → Option Reason
number_test segment pages given = want (nat_eq given (siblings_needed (labels_of pages))) (reason.Siblings segment (siblings_needed (labels_of pages)) given)

abbrev pub siblings_test : System → List VmInstr → ℕ → Segment → ℕ → Option Reason
siblings_test x program segment s given = option_or (balance_test segment (segment_events x program s)) (number_test segment s.pages given)

-- the exit code of the TERMINATE at a pc
abbrev pub code_of : VmInstr → Option ℕ
code_of row = if nat_eq row.op TERMINATE then Some (slice_index row.imm 0) else None

abbrev pub exit_code : List VmInstr → ℕ → Option ℕ
exit_code program pc = option_and_then code_of (find (λ row. row.pc == pc) program)

-- ---- where it begins, and the whole of it

-- where the one before it ended, and the first one at the image's own
abbrev pub start_behind : Loaded → List Segment → Before
start_behind image [] = record { root = root (start_map image); pc = image.entry }
start_behind image (s ∷ before) = record { root = s.end_root; pc = s.pc_end }

-- where it isn't known, any will do
abbrev pub has_root : Option Before → List ℕ → Bool
has_root None found = true
has_root (Some start) found = same_bytes found start.root

abbrev pub has_pc : Option Before → ℕ → Bool
has_pc None found = true
has_pc (Some start) found = nat_eq found start.pc

abbrev pub start_root_test : ℕ → Option Before → List ℕ → List Touched → List (List ℕ) → Option Reason
start_root_test segment start found pages siblings =
    want (has_root start found && same_bytes found (opening_root (labels_of pages) (old_bytes_at pages) siblings)) (reason.RootStart segment)

abbrev pub end_root_test : ℕ → List ℕ → List Touched → List (List ℕ) → Option Reason
end_root_test segment found pages siblings = want (same_bytes found (opening_root (labels_of pages) (new_bytes_at pages) siblings)) (reason.RootEnd segment)

abbrev pub start_pc_test : ℕ → Option Before → ℕ → Option Reason
start_pc_test segment start found = want (has_pc start found) (reason.PcChain segment)

-- one that says that it ends does so at a TERMINATE
abbrev pub end_test : ℕ → List VmInstr → Bool → ℕ → Option Reason
end_test segment program ends pc = want (not ends || is_some (exit_code program pc)) (reason.NotTerminate segment)

abbrev pub whole_test : List VmInstr → Option Before → ℕ → Segment → Option Reason
whole_test program start segment s =
    option_or (start_root_test segment start s.start_root s.pages s.siblings)
    (option_or (end_root_test segment s.end_root s.pages s.siblings) (option_or (start_pc_test segment start s.pc_start) (end_test segment program s.ends s.pc_end)))

-- the tests of segments, where it is known at which each is to begin, or is not
abbrev pub segment_tests : System → List VmInstr → (Stand → Option Before) → Tests
segment_tests x program start = record (no_tests 4096) {
  heights = λ at. slots_test x at.number;
  row = λ at. row_test x at.number;
  page = λ at. page_test at.number;
  siblings = λ at. siblings_test x program at.number;
  segment = λ at. whole_test program (start at) at.number;
}

-- what a segment is read against
abbrev pub shape_over : System → List VmInstr → Shape
shape_over x program = record { widths = map (λ (p : Part). p.sheet.width) x.parts; program_len = length program }

-- a segment of a version, behind its mark, by its number and where it is to begin
abbrev pub segment_alone : System → List VmInstr → ℕ → Option Before → ℕ → Reading Reason Segment
segment_alone x program version start place =
    segment (limits_of version) (shape_over x program) (segment_tests x program (λ at. start)) (record { number = place; before = [] })

-- ---- a file

-- the last segment says that it ends
abbrev pub says_end : List Segment → Bool
says_end [] = false
says_end (s ∷ before) = s.ends

-- no segment may follow one that says that it ends
abbrev pub early_test : Bool → ℕ → Option Reason
early_test ended number = want (not ended) (reason.EarlyEnd (number - 1))

-- and one must follow any other
abbrev pub open_test : Bool → Option Reason
open_test ended = want ended reason.NoEnd

abbrev pub follows_test : Stand → Option Reason
follows_test at = early_test (says_end at.before) at.number

abbrev pub closed_test : Stand → Option Reason
closed_test at = open_test (says_end at.before)

-- where it ends there is a TERMINATE, since the segment's own test has passed
abbrev pub code_test : Option ℕ → ℕ → Option Reason
code_test None stated = Some reason.NoEnd
code_test (Some found) stated = want (nat_eq stated found) (reason.ExitCode stated found)

-- the path of the public bytes leads to the last root
abbrev pub path_test : List ℕ → List ℕ → List (List ℕ) → Option Reason
path_test end public path = want (same_bytes (climb PUBLIC_LABEL public path) end) reason.Public

abbrev pub public_test : List ℕ → File → Option Reason
public_test end f = path_test end f.public_bytes f.path

abbrev pub claim_test : Loaded → Stand → File → Option Reason
claim_test image at f =
    option_or (code_test (exit_code (program_of image) (start_behind image at.before).pc) f.code) (public_test (start_behind image at.before).root f)

abbrev pub file_tests : System → Loaded → Tests
file_tests x image = record (segment_tests x (program_of image) (λ at. Some (start_behind image at.before))) {
  follows = follows_test;
  closed = closed_test;
  claim = claim_test image;
}

-- the first test that fails of what stands behind the head of a file of this version
abbrev pub body_rejection : System → Loaded → ℕ → List ℕ → Option Reason
body_rejection x image version bytes = reason_in reason.Trailing (body version (shape_of x image) (file_tests x image) (rest_at 12 bytes))

-- The first test that fails of a file over an image, of a version up to the greatest. What each version is read against
-- is the extension that belongs to it.
abbrev pub rejection : (ℕ → System) → Loaded → ℕ → List ℕ → Option Reason
rejection x image greatest bytes = first_reason reason.Trailing (file (λ version. shape_of (x version) image) (λ version. file_tests (x version) image) greatest) bytes
