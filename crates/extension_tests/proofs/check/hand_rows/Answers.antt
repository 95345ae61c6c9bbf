use Rattle.std.proofs.Common.{◌≡◌, arith, subst, ap, ◌∙◌}
use Rattle.air_core.specs.Sheet.{row_events}
use Rattle.air_core.specs.First.{first_from}
use Rattle.air_core.specs.Sink.{Handed}
use Rattle.air_core.specs.System.{sheet_at}
use Rattle.extension_tests.proofs.RowLemmas.{row_holds, row_broken, lists_more, broken_row, holding_row, few_at}
use Rattle.extension_tests.proofs.check.hand_rows.Goals as goal
use Rattle.extension_tests.proofs.check.hand_rows.Goals.{then-is_some, else-is_some}

pub loop-row-preserved : goal.loop-row-preserved
loop-row-preserved g c =
    let sink = g.S.EventSink in
    let system = g.E.Extension.system c.args.ext.now in
    let sheet = sheet_at system c.args.table in
    let row = c.row-item.result.items in
    let more = lists_more c.args.rows.now c.loop-row.row-index c.row-item.result c.loop-row-test.true c.row-item.is in
    let found : c.first_broken.result ≡ first_from 0 (sheet.constraints row) = c.first_broken.ensures ∙ ap (λ r. first_from 0 (sheet.constraints r)) c.deref.ensures.value in
    let handed : Handed sink.holds sink.room c.loop-row.sink c.events.new.sink (row_events sheet row) =
    subst (λ r. Handed sink.holds sink.room c.loop-row.sink c.events.new.sink (row_events sheet r)) c.deref-in-loop-row.ensures.value c.in_ok-events.ensures.ok in
    record {
      told = rw more (elim c.if-is_some.branch [
        | then-is_some w ↦ rw w.all-is (row_broken sheet _ row _ c.loop-row.invariant.told handed (broken_row sheet row c.first_broken.result found w.if-is_some.ensures))
        | else-is_some w ↦ rw w.all-is (row_holds sheet _ row _ c.loop-row.invariant.told handed (holding_row sheet row c.first_broken.result found w.if-is_some.ensures))
      ]);
      left = omega (arith, c.loop-row.invariant.left, handed.used, few_at system.private system.parts c.args.table (g.met.E.Extension.buses c.args.ext.now) row);
    }
