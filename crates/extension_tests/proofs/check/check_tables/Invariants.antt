use Rattle.std.proofs.Common.{◌≡◌, ◌*◌, ◌≤◌, ◌↔◌, List, ◌++◌, drop}
use Rattle.air_core.specs.declared.event.Event.{Event}
use Rattle.air_core.specs.Sheet.{RowHolds, counted}
use Rattle.air_core.specs.System.{EachRow, all_events}
use Rattle.bus_core.specs.Sums.{Holds, room_of}
use Rattle.extension_tests.specs.Rows.{all_lists, rows_in, IsWide}
use Rattle.extension_tests.proofs.check.check_tables.Given as goal

-- what was handed over and what is left are all events, and what is left decides whether all rows hold
abbrev pub invariant-loop-table : goal.invariant-loop-table
invariant-loop-table g l =
    let parts = (g.E.Extension.system l.ext).parts in
    let all = all_lists l.tables in
    record {
      kept : (list : List Event) × (Holds l.balance list × (list ++ all_events (drop l.table parts) (drop l.table all) ≡ counted l.others ++ all_events parts all));
      hold : EachRow RowHolds (drop l.table parts) (drop l.table all) ↔ EachRow RowHolds parts all;
      wide : EachRow IsWide (drop l.table parts) (drop l.table all);
      room : 256 * rows_in (drop l.table all) ≤ room_of l.balance;
    }
