use Rattle.std.proofs.Common.{◌≡◌, length, take}
use Rattle.std.specs.Prelude.{flat_map}
use Rattle.air_core.specs.Sheet.{row_events}
use Rattle.air_core.specs.Sink.{Handed}
use Rattle.air_core.specs.System.{part_at}
use Rattle.vm_filler.specs.Tables.{filled_rows}
use Rattle.vm_filler.specs.Filling.{with_rows}
use Rattle.vm_filler.specs.Lookups.{CountLookups, events_left}
use Rattle.vm_filler.proofs.fill.fill_records.Given as goal

-- the rows of the records so far stand in the table, and their events were handed over
abbrev pub invariant-loop-done : goal.invariant-loop-done
invariant-loop-done g l =
    let part = part_at (g.E.Extension.system l.ext) l.table in
    let so_far = filled_rows (take l.done-index l.records) part in
    record {
      rows : l.tables ≡ with_rows l.fn.tables l.table so_far;
      handed : Handed CountLookups events_left l.fn.lookups l.lookups (flat_map (row_events part.sheet) so_far);
      wide : length l.row ≡ part.sheet.width;
    }
