use Rattle.std.proofs.Common.{◌++◌}
use Rattle.table_format.proofs.Putting.{puts_both, puts_error}
use Rattle.table_format.specs.Texts.{entry_text, counted_text}
use Rattle.table_format.proofs.table_writer.parts.put_counts.Goals as goal

pub returns-in_err-put_list : goal.returns-in_err-put_list
returns-in_err-put_list g c = puts_error (counted_text entry_text c.args.tables.now.xor ++ (counted_text entry_text c.args.tables.now.range ++ (counted_text entry_text c.args.tables.now.constants))) _ c.from_residual.result c.from_residual.ensures.1 c.in_err-put_list.ensures

pub returns-in_err-put_list-2 : goal.returns-in_err-put_list-2
returns-in_err-put_list-2 g c = puts_both c.in_ok-put_list.ensures (puts_error (counted_text entry_text c.args.tables.now.range ++ (counted_text entry_text c.args.tables.now.constants)) _ c.from_residual-in_err-put_list-2.result c.from_residual-in_err-put_list-2.ensures.1 c.in_err-put_list-2.ensures)

pub returns-in_err-put_list-3 : goal.returns-in_err-put_list-3
returns-in_err-put_list-3 g c = puts_both c.in_ok-put_list.ensures (puts_both c.in_ok-put_list-2.ensures (puts_error (counted_text entry_text c.args.tables.now.constants) _ c.from_residual-in_err-put_list-3.result c.from_residual-in_err-put_list-3.ensures.1 c.in_err-put_list-3.ensures))

pub returns : goal.returns
returns g c = puts_both c.in_ok-put_list.ensures (puts_both c.in_ok-put_list-2.ensures (puts_both c.in_ok-put_list-3.ensures c.put_list-4.ensures))
