use Rattle.std.proofs.Common.{◌+◌, ◌*◌, ◌≤◌, take}
use Rattle.air_core.specs.System.{sheet_at}
use Rattle.extension_tests.specs.Rows.{lists, RowsHanded}
use Rattle.extension_tests.proofs.check.hand_rows.Given as goal

-- so far
abbrev pub invariant-loop-row : goal.invariant-loop-row
invariant-loop-row g l =
    let sink = g.S.EventSink in
    record {
      told : RowsHanded sink.holds sink.room l.fn.sink l.sink (sheet_at (g.E.Extension.system l.ext) l.table) (lists (take l.row-index l.rows)) l.all;
      left : sink.room l.fn.sink ≤ sink.room l.sink + 256 * l.row-index;
    }
