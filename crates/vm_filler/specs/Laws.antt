-- What filled segments say. Each law is the contract of a function in src/laws.rt.
use Rattle.std.specs.Prelude.{◌≡◌, ◌*◌, ◌≤◌, List, length, map}
use Rattle.vm_isa.specs.declared.instr.VmInstr.{VmInstr}
use Rattle.vm_isa.specs.declared.record.StepRecord.{StepRecord}
use Rattle.vm_trace.specs.Canonical.{IsElement, IsCanonicalSegment, Shape, height_of}
use Rattle.vm_trace.specs.File.{Segment}
use Rattle.vm_trace.specs.Limits.{Limits}
use Rattle.air_core.specs.System.{System, Part}
use Rattle.vm_transpile.specs.Order.{RisesFrom}
use Rattle.acceptance.specs.Events.{valid_rows}
use Rattle.acceptance.specs.Holds.{SegmentHolds}
use Rattle.acceptance.specs.Spelled.{SegmentSpells}
use Rattle.vm_filler.specs.Hints.{hints_of}
use Rattle.vm_filler.specs.Segment.{IsFilledSegment}

-- A filled segment holds: its rows do, and all that it says balances.
abbrev pub FilledSegmentsHold : System → Type 0
FilledSegmentsHold x = (program : List VmInstr) (done : List StepRecord) (s : Segment) → RisesFrom 0 program → IsFilledSegment x program done s → SegmentHolds x program s

-- what it is read against
abbrev pub shape_over : System → List VmInstr → Shape
shape_over x program = record { widths = map (λ (p : Part). p.sheet.width) x.parts; program_len = length program }

-- It is of the form of every version whose greatest height holds 64 rows for each record, where its first pc is an element
-- of the field.
abbrev pub FilledSegmentsAreCanonical : System → Type 0
FilledSegmentsAreCanonical x = (limits : Limits) (program : List VmInstr) (done : List StepRecord) (s : Segment) → RisesFrom 0 program → IsFilledSegment x program done s
    → IsElement s.pc_start → 64 * length done ≤ height_of limits.greatest_code → IsCanonicalSegment limits (shape_over x program) s

-- Each record fills one valid row.
abbrev pub FilledSegmentsCountRecords : System → Type 0
FilledSegmentsCountRecords x = (program : List VmInstr) (done : List StepRecord) (s : Segment) → IsFilledSegment x program done s → valid_rows x s ≡ length done

-- The hints that its rows spell are those that the records take, in their order.
abbrev pub FilledSegmentsSpell : System → Type 0
FilledSegmentsSpell x = (program : List VmInstr) (done : List StepRecord) (s : Segment) → IsFilledSegment x program done s → SegmentSpells x s (hints_of done)
