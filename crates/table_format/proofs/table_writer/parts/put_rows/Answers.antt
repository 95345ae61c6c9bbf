use Rattle.std.proofs.Common.{ap, arith}
use Rattle.std.specs.List.{flat_map}
use Rattle.std.proofs.lemmas.List.{take_all}
use Rattle.table_format.proofs.Putting.{puts_none, puts_more, puts_stops, puts_as}
use Rattle.table_format.specs.Texts.{number_text}
use Rattle.vm_trace.specs.Contents.{table_at}
use Rattle.std.proofs.Common.{[]}
use Rattle.table_format.proofs.table_writer.parts.put_rows.Goals as goal

pub rows-init : goal.rows-init
rows-init g c = puts_none _ _

pub returns-in_err-put_row_at : goal.returns-in_err-put_row_at
returns-in_err-put_row_at g c = puts_stops (flat_map number_text) (table_at c.args.tables.now c.args.table).rows c.rows.place [] _ c.from_residual.result c.from_residual.ensures.1 (omega (arith, c.rows-test.true, c.height-place-end.ensures)) c.rows.invariant c.in_err-put_row_at.ensures

pub rows-preserved : goal.rows-preserved
rows-preserved g c = puts_more (flat_map number_text) (table_at c.args.tables.now c.args.table).rows c.rows.place [] (omega (arith, c.rows-test.true, c.height-place-end.ensures)) c.rows.invariant c.in_ok-put_row_at.ensures

pub returns : goal.returns
returns g c = puts_as (ap (flat_map (flat_map number_text)) (take_all c.rows.place (table_at c.args.tables.now c.args.table).rows (omega (arith, c.rows-test.false, c.height-place-end.ensures)))) c.rows.invariant
