use Rattle.std.proofs.Common.{◌++◌}
use Rattle.std.specs.List.{flat_map}
use Rattle.table_format.proofs.Putting.{puts_both, puts_error}
use Rattle.table_format.specs.Texts.{number_text}
use Rattle.table_format.proofs.table_writer.parts.put_page.Goals as goal

pub returns-in_err-put_number : goal.returns-in_err-put_number
returns-in_err-put_number g c = puts_error (c.args.page.now.old ++ (c.args.page.now.new ++ (flat_map number_text c.args.page.now.times))) _ c.from_residual.result c.from_residual.ensures.1 c.in_err-put_number.ensures

pub returns-in_err-put : goal.returns-in_err-put
returns-in_err-put g c = puts_both c.in_ok-put_number.ensures (puts_error (c.args.page.now.new ++ (flat_map number_text c.args.page.now.times)) _ c.from_residual-in_err-put.result c.from_residual-in_err-put.ensures.1 c.in_err-put.ensures)

pub returns-in_err-put-2 : goal.returns-in_err-put-2
returns-in_err-put-2 g c = puts_both c.in_ok-put_number.ensures (puts_both c.in_ok-put.ensures (puts_error (flat_map number_text c.args.page.now.times) _ c.from_residual-in_err-put-2.result c.from_residual-in_err-put-2.ensures.1 c.in_err-put-2.ensures))

pub returns : goal.returns
returns g c = puts_both c.in_ok-put_number.ensures (puts_both c.in_ok-put.ensures (puts_both c.in_ok-put-2.ensures c.put_numbers.ensures))
