use Rattle.std.proofs.Common.{ap, ◌∙◌, arith}
use Rattle.std.specs.List.{flat_map}
use Rattle.std.proofs.lemmas.List.{take_all}
use Rattle.table_format.proofs.Putting.{puts_none, puts_more, puts_stops, puts_as}
use Rattle.table_format.specs.Writing.{code_text}
use Rattle.table_format.specs.Texts.{byte_text}
use Rattle.table_format.specs.Writing.{digits}
use Rattle.table_format.proofs.Putting.{no_table}
use Rattle.table_format.proofs.table_writer.parts.put_codes.Goals as goal

pub tables-init : goal.tables-init
tables-init g c = puts_none _ _

pub returns-in_err-put_byte : goal.returns-in_err-put_byte
returns-in_err-put_byte g c = puts_stops code_text c.args.tables.now.tables c.tables.table no_table _ c.from_residual.result c.from_residual.ensures.1 (omega (arith, c.tables-test.true, c.tables-table-end.ensures)) c.tables.invariant (puts_as (ap byte_text (c.code_of-code.ensures ∙ ap digits c.height.ensures)) c.in_err-put_byte.ensures)

pub tables-preserved : goal.tables-preserved
tables-preserved g c = puts_more code_text c.args.tables.now.tables c.tables.table no_table (omega (arith, c.tables-test.true, c.tables-table-end.ensures)) c.tables.invariant (puts_as (ap byte_text (c.code_of-code.ensures ∙ ap digits c.height.ensures)) c.in_ok-put_byte.ensures)

pub returns : goal.returns
returns g c = puts_as (ap (flat_map code_text) (take_all c.tables.table c.args.tables.now.tables (omega (arith, c.tables-test.false, c.tables-table-end.ensures)))) c.tables.invariant
