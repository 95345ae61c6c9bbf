-- When a segment holds over a program.
use Rattle.std.specs.Prelude.{◌≡◌, ℕ, ◌+◌, ◌*◌, ◌^◌, ◌<◌, List, [], ◌∷◌, length}
use Rattle.std.specs.List.{AllByRecursion}
use Rattle.std.specs.List.Sorted.{IsStrictlyIncreasing}
use Rattle.vm_isa.specs.declared.instr.VmInstr.{VmInstr}
use Rattle.vm_trace.specs.declared.page.Touched.{Touched}
use Rattle.vm_trace.specs.File.{Segment}
use Rattle.vm_trace.specs.Pages.{IsMachineLabel, IsWhole}
use Rattle.air_core.specs.Balance.{Balanced}
use Rattle.air_core.specs.Sheet.{IsRow, RowHolds}
use Rattle.air_core.specs.System.{System, Part, EachRow}
use Rattle.page_tree.specs.Opening.{AreDigests}
use Rattle.page_tree.specs.Parts.{labels_of, AreRoots}
use Rattle.acceptance.specs.Events.{segment_events}

-- a page of the machine, whole
pub record IsMachinePage (page : Touched) : Type 0 where
  pub label : IsMachineLabel page.label
  pub whole : IsWhole page

-- the slots that the rows of all tables could take, were each valid
abbrev pub most_slots : List Part → List (List (List ℕ)) → ℕ
most_slots [] tables = 0
most_slots (p ∷ ps) [] = 0
most_slots (p ∷ ps) (rows ∷ tables) = length rows * p.sheet.slots + most_slots ps tables

pub record SegmentHolds (x : System) (program : List VmInstr) (s : Segment) : Type 0 where
  -- rows of each table, and they hold
  pub count : length s.tables ≡ length x.parts
  pub are_rows : EachRow IsRow x.parts s.tables
  pub hold : EachRow RowHolds x.parts s.tables
  -- in the times that the tables keep
  pub slots : most_slots x.parts s.tables < 2 ^ x.time_bits
  -- each bus balances
  pub balanced : Balanced (segment_events x program s)
  -- pages of the machine, in rising order
  pub rising : IsStrictlyIncreasing (labels_of s.pages)
  pub pages : AllByRecursion IsMachinePage s.pages
  -- their openings
  pub digests : AreDigests s.siblings
  pub roots : AreRoots s.pages s.siblings s.start_root s.end_root
