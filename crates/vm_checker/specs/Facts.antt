-- What is told of a segment that stands.
use Rattle.std.specs.Prelude.{◌≡◌, ℕ, if◌then◌else◌, flat_map, List, [], Option, None}
use Rattle.vm_isa.specs.declared.instr.VmInstr.{VmInstr}
use Rattle.vm_trace.specs.File.{Segment}
use Rattle.air_core.specs.declared.hint.HintWord.{HintWord}
use Rattle.air_core.specs.Sheet.{IsRow}
use Rattle.air_core.specs.System.{System, EachRow}
use Rattle.table_format.specs.declared.item.Bounds.{Bounds}
use Rattle.table_format.specs.declared.item.Connector.{Connector}
use Rattle.acceptance.specs.Events.{valid_rows}
use Rattle.acceptance.specs.Spelled.{HintEvent, SegmentSpells, hints_before}
use Rattle.vm_checker.specs.declared.segment.SegmentFacts.{SegmentFacts}
use Rattle.vm_checker.specs.declared.tally.Tally.{Tally}
use Rattle.vm_checker.specs.FirstReason.{exit_code}
use Rattle.vm_checker.specs.Kept.{IsSorted, bytes_of}

-- where it begins and ends
abbrev pub connector_of : Segment → Connector
connector_of s = record { pc_start = s.pc_start; pc_end = s.pc_end; end_time = s.end_time; ends = s.ends }

-- the exit code of the TERMINATE at its end, if it says that it ends
abbrev pub code_at : List VmInstr → Connector → Option ℕ
code_at program c = if c.ends then exit_code program c.pc_end else None

-- what is made of what was kept
pub record AreFacts (program : List VmInstr) (bounds : Bounds) (tally : Tally) (facts : SegmentFacts) : Type 0 where
  pub connector : facts.connector ≡ bounds.connector
  pub start : facts.start ≡ bounds.start
  pub end : facts.end ≡ bounds.end
  pub code : facts.code ≡ code_at program bounds.connector
  pub rows : facts.rows ≡ tally.valid
  pub sorted : List HintWord
  pub order : IsSorted tally.hints.items sorted
  pub hints : facts.hints ≡ flat_map bytes_of sorted

-- what a segment says: its ends, its number of valid rows, and the bytes of the hints that it spells
pub record IsSegment (x : System) (program : List VmInstr) (s : Segment) (facts : SegmentFacts) : Type 0 where
  pub connector : facts.connector ≡ connector_of s
  pub start : facts.start ≡ s.start_root
  pub end : facts.end ≡ s.end_root
  pub code : facts.code ≡ code_at program (connector_of s)
  pub rows : facts.rows ≡ valid_rows x s
  pub hints : EachRow IsRow x.parts s.tables → (events : List HintEvent) × SegmentSpells x s events × (facts.hints ≡ hints_before events [])
