-- What is filled, and the segment that it is a part of.
use Rattle.std.specs.Prelude.{◌≡◌, ℕ, suc, nat_eq, if◌then◌else◌, Bool, List, map, length}
use Rattle.std.specs.List.{AllByRecursion}
use Rattle.std.specs.List.Sorted.{IsStrictlyIncreasing}
use Rattle.vm_isa.specs.declared.instr.VmInstr.{VmInstr}
use Rattle.vm_isa.specs.declared.record.StepRecord.{StepRecord}
use Rattle.vm_trace.specs.declared.page.Touched.{Touched}
use Rattle.vm_trace.specs.Canonical.{IsDigest}
use Rattle.vm_trace.specs.Contents.{Contents, TableRows, rows_by_table}
use Rattle.vm_trace.specs.File.{Segment}
use Rattle.air_core.specs.declared.bus.TheConstants.{PROGRAM, XOR, RANGE, SHA_CONSTANTS}
use Rattle.air_core.specs.System.{System, Part, all_events}
use Rattle.lookup_tables.specs.Rows.{exponent_up_to}
use Rattle.offline_memory.specs.Linked.{PagesFit}
use Rattle.page_tree.specs.Parts.{labels_of, AreRoots}
use Rattle.vm_executor.specs.Records.{AreRecords, accesses_of, start_at, point_after}
use Rattle.acceptance.specs.Holds.{IsMachinePage}
use Rattle.vm_filler.specs.Tables.{AreFilledTables}
use Rattle.vm_filler.specs.Uses.{uses_of, entries_of}

-- The tables of an extension as records fill them, and the entries of how often their rows send each row of the fixed
-- tables.
pub record SegmentFilled (x : System) (program : List VmInstr) (done : List StepRecord) (c : Contents) : Type 0 where
  pub widths : map (λ (t : TableRows). t.width) c.tables ≡ map (λ (p : Part). p.sheet.width) x.parts
  pub filled : AreFilledTables done x.parts (rows_by_table c)
  pub program_entries : c.program ≡ entries_of (uses_of program PROGRAM (all_events x.parts (rows_by_table c)))
  pub xor_entries : c.xor ≡ entries_of (uses_of program XOR (all_events x.parts (rows_by_table c)))
  pub range_entries : c.range ≡ entries_of (uses_of program RANGE (all_events x.parts (rows_by_table c)))
  pub constant_entries : c.constants ≡ entries_of (uses_of program SHA_CONSTANTS (all_events x.parts (rows_by_table c)))

-- the code of a height: 0 for no rows, and one more than the exponent of a power of two
abbrev pub height_code : ℕ → ℕ
height_code height = if nat_eq height 0 then 0 else suc (exponent_up_to 24 height)

abbrev pub height_codes_of : List (List (List ℕ)) → List ℕ
height_codes_of tables = map (λ rows. height_code (length rows)) tables

-- the segment of records that begin at a pc, with these tables, pages and siblings
abbrev pub filled_segment : ℕ → List StepRecord → Contents → Bool → List ℕ → List ℕ → List Touched → List (List ℕ) → Segment
filled_segment pc done c ends start_root end_root pages siblings = record {
  pc_start = pc;
  pc_end = (point_after (start_at pc) done).pc;
  end_time = (point_after (start_at pc) done).time;
  ends = ends;
  start_root = start_root;
  end_root = end_root;
  height_codes = height_codes_of (rows_by_table c);
  tables = rows_by_table c;
  program = c.program;
  xor = c.xor;
  range = c.range;
  constants = c.constants;
  pages = pages;
  siblings = siblings;
}

-- Pages of the machine that fit the records, in rising order of their labels, and digests that open them between two roots.
pub record PagesOpened (done : List StepRecord) (pages : List Touched) (siblings : List (List ℕ)) (start_root end_root : List ℕ) : Type 0 where
  pub fit : PagesFit pages (accesses_of done)
  pub rising : IsStrictlyIncreasing (labels_of pages)
  pub machine : AllByRecursion IsMachinePage pages
  pub digests : AllByRecursion IsDigest siblings
  pub roots : AreRoots pages siblings start_root end_root

-- A segment that these records fill over a program: its tables are theirs, it goes from where they begin to where they
-- end, and its pages are opened.
pub record IsFilledSegment (x : System) (program : List VmInstr) (done : List StepRecord) (s : Segment) : Type 0 where
  pub contents : Contents
  pub records : AreRecords x program s.pc_start done
  pub filled : SegmentFilled x program done contents
  pub opened : PagesOpened done s.pages s.siblings s.start_root s.end_root
  pub is : s ≡ filled_segment s.pc_start done contents s.ends s.start_root s.end_root s.pages s.siblings
