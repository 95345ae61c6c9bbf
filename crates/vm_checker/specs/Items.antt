-- The items of a segment with the tests that a check makes of each, as the code reads them.
use Rattle.std.specs.Prelude.{ℕ, Bool, List, ◌++◌, flat_map, length, slice_index, nat_eq, if◌then◌else◌, Option, Some}
use Rattle.std.specs.Option.{option_or}
use Rattle.elf_image.specs.Loaded.{Loaded}
use Rattle.readings.specs.Readings.{Reading, seen, both, unless, by_mark, chain, listed, number}
use Rattle.vm_isa.specs.declared.instr.VmInstr.{VmInstr}
use Rattle.vm_trace.specs.declared.page.Touched.{Touched}
use Rattle.vm_trace.specs.File.{Segment, File}
use Rattle.vm_trace.specs.Limits.{limits_of}
use Rattle.vm_trace.specs.Canonical.{height_of}
use Rattle.air_core.specs.declared.event.Event.{Event}
use Rattle.air_core.specs.System.{System, all_events, sheet_at}
use Rattle.exec_path.specs.PathEvents.{connector_events}
use Rattle.offline_memory.specs.MemoryEvents.{boundary_events}
use Rattle.table_format.specs.declared.reason.Reason.{Reason}
use Rattle.table_format.specs.declared.reason.Reason.TheVariants as reason
use Rattle.acceptance.specs.Accepts.{shape_of}
use Rattle.table_format.specs.Order.{Bounds, Counts, PageAt, bounds, claim, counts, segment, segment_of, next_place, next_page, first_page, first_stand, next_stand, stand_after, elements, digest, file_of, flag, height_code, list, touched}
use Rattle.table_format.specs.declared.item.Bounds.{Bounds as Found}
use Rattle.vm_checker.specs.declared.Before.{Before}
use Rattle.vm_checker.specs.FirstReason.{claim_test, closed_test, early_test, file_tests, follows_test, open_test, slots_test, row_test, page_test, balance_test, number_test, start_root_test, end_root_test, start_pc_test, end_test, whole_test}
use Rattle.vm_checker.specs.Kept.{counts_said}

abbrev pub code_list : ℕ → ℕ → ℕ → Reading Reason (List ℕ)
code_list tables greatest segment = chain (height_code greatest segment) next_place tables 0

abbrev pub codes_of : System → ℕ → ℕ → Reading Reason (List ℕ)
codes_of x greatest segment = unless (slots_test x segment) (code_list (length x.parts) greatest segment)

abbrev pub row_of : System → ℕ → ℕ → ℕ → Reading Reason (List ℕ)
row_of x segment table place = unless (row_test x segment table place) (elements (sheet_at x table).width)

abbrev pub rows_of : System → ℕ → ℕ → ℕ → Reading Reason (List (List ℕ))
rows_of x segment table height = chain (row_of x segment table) next_place height 0

-- table after table, each of the height that its code stands for
abbrev pub tables_of : System → ℕ → List ℕ → Reading Reason (List (List (List ℕ)))
tables_of x segment codes = chain (λ table. rows_of x segment table (height_of (slice_index codes table))) next_place (length x.parts) 0

abbrev pub page_of : ℕ → PageAt → Reading Reason Touched
page_of segment place = unless (page_test segment place) touched

abbrev pub pages_of : ℕ → Reading Reason (List Touched)
pages_of segment = list (number reason.Cut) (page_of segment) next_page first_page

-- the number of siblings, behind these events and pages
abbrev pub number_of : ℕ → List Event → List Touched → Reading Reason ℕ
number_of segment events pages = unless (λ given. option_or (balance_test segment events) (number_test segment pages given)) (number reason.Cut)

abbrev pub siblings_of : ℕ → List Event → List Touched → Reading Reason (List (List ℕ))
siblings_of segment events pages = list (number_of segment events pages) (λ i. digest) next_place 0

-- ---- a segment

-- all that its rows, its fixed tables and its pages say
abbrev pub said_in : System → List VmInstr → Bounds → List (List (List ℕ)) → Counts → List Touched → List Event
said_in x program h ts ls ps =
    connector_events (record { pc = h.0; time = 1 }) (record { pc = h.1.0; time = h.1.1.0 }) ++ (all_events x.parts ts ++ (counts_said program ls ++ flat_map boundary_events ps))

-- what stands behind the codes
abbrev pub Inside : Type 0
Inside = List (List (List ℕ)) × (Counts × (List Touched × List (List ℕ)))

abbrev pub inside_of : System → List VmInstr → ℕ → Bounds → List ℕ → Reading Reason Inside
inside_of x program segment h cs =
    both (tables_of x segment cs) (λ ts. both (counts (length program)) (λ ls. both (pages_of segment) (λ ps. siblings_of segment (said_in x program h ts ls ps) ps)))

-- the test of the whole, by its bounds, its pages and its siblings
abbrev pub bounds_test : List VmInstr → Option Before → ℕ → Found → List Touched → List (List ℕ) → Option Reason
bounds_test program before segment b pages siblings =
    option_or (start_root_test segment before b.start pages siblings)
    (option_or (end_root_test segment b.end pages siblings) (option_or (start_pc_test segment before b.connector.pc_start) (end_test segment program b.connector.ends b.connector.pc_end)))

abbrev pub segment_by : ℕ → System → List VmInstr → Option Before → ℕ → Reading Reason Segment
segment_by greatest x program before segment = unless (whole_test program before segment) (seen segment_of
    (both bounds (λ h. both (codes_of x greatest segment) (λ cs. inside_of x program segment h cs))))

-- ---- one segment after another

-- behind so many segments one more may follow
abbrev pub more_test : Bool → ℕ → Option Reason
more_test ended number = if nat_eq number 4096 then Some reason.TooManySegments else early_test ended number

-- a mark, behind so many segments of which the last says that it ends or doesn't
abbrev pub mark_of : Bool → ℕ → Reading Reason Bool
mark_of ended number = unless (by_mark (more_test ended number) (open_test ended)) flag

abbrev pub segments_of : System → Loaded → ℕ → Reading Reason (List Segment)
segments_of x image version =
    listed reason.TooManySegments follows_test closed_test flag (segment (limits_of version) (shape_of x image) (file_tests x image)) next_stand 4096 first_stand

abbrev pub body_of : System → Loaded → ℕ → Reading Reason File
body_of x image version =
    unless (λ f. claim_test image (stand_after first_stand f.segments) f) (seen (file_of version) (both (segments_of x image version) (λ ss. claim)))
