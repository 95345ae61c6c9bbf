use Rattle.std.proofs.Common.{◌≡◌, length}
use Rattle.std.specs.Prelude.{flat_map}
use Rattle.air_core.specs.Sheet.{row_events}
use Rattle.air_core.specs.Sink.{Handed}
use Rattle.air_core.specs.System.{sheet_at}
use Rattle.vm_filler.specs.Filling.{with_rows}
use Rattle.vm_filler.specs.Lookups.{CountLookups, events_left}
use Rattle.vm_filler.proofs.RowsLemmas.{rows_to}
use Rattle.vm_filler.proofs.fill.fill_record.Given as goal

-- the rows of the places so far stand in the table, and their events were handed over
abbrev pub invariant-loop-place : goal.invariant-loop-place
invariant-loop-place g l =
    let sheet = sheet_at (g.E.Extension.system l.ext) l.table in
    record {
      rows : l.tables ≡ with_rows l.fn.tables l.table (rows_to sheet l.done l.place);
      handed : Handed CountLookups events_left l.fn.lookups l.lookups (flat_map (row_events sheet) (rows_to sheet l.done l.place));
      wide : length l.row ≡ sheet.width;
    }
