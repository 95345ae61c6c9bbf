use Rattle.std.proofs.Common.{◌++◌}
use Rattle.table_format.proofs.Putting.{puts_both, puts_error}
use Rattle.table_format.specs.Texts.{number_text, flag_text}
use Rattle.table_format.proofs.table_writer.parts.put_bounds.Goals as goal

pub returns-in_err-put_number : goal.returns-in_err-put_number
returns-in_err-put_number g c = puts_error (number_text c.args.connector.now.pc_end ++ (number_text c.args.connector.now.end_time ++ (flag_text c.args.connector.now.ends ++ (c.args.start.now ++ (c.args.end.now))))) _ c.from_residual.result c.from_residual.ensures.1 c.in_err-put_number.ensures

pub returns-in_err-put_number-2 : goal.returns-in_err-put_number-2
returns-in_err-put_number-2 g c = puts_both c.in_ok-put_number.ensures (puts_error (number_text c.args.connector.now.end_time ++ (flag_text c.args.connector.now.ends ++ (c.args.start.now ++ (c.args.end.now)))) _ c.from_residual-in_err-put_number-2.result c.from_residual-in_err-put_number-2.ensures.1 c.in_err-put_number-2.ensures)

pub returns-in_err-put_number-3 : goal.returns-in_err-put_number-3
returns-in_err-put_number-3 g c = puts_both c.in_ok-put_number.ensures (puts_both c.in_ok-put_number-2.ensures (puts_error (flag_text c.args.connector.now.ends ++ (c.args.start.now ++ (c.args.end.now))) _ c.from_residual-in_err-put_number-3.result c.from_residual-in_err-put_number-3.ensures.1 c.in_err-put_number-3.ensures))

pub returns-in_err-put_flag : goal.returns-in_err-put_flag
returns-in_err-put_flag g c = puts_both c.in_ok-put_number.ensures (puts_both c.in_ok-put_number-2.ensures (puts_both c.in_ok-put_number-3.ensures (puts_error (c.args.start.now ++ (c.args.end.now)) _ c.from_residual-in_err-put_flag.result c.from_residual-in_err-put_flag.ensures.1 c.in_err-put_flag.ensures)))

pub returns-in_err-put : goal.returns-in_err-put
returns-in_err-put g c = puts_both c.in_ok-put_number.ensures (puts_both c.in_ok-put_number-2.ensures (puts_both c.in_ok-put_number-3.ensures (puts_both c.in_ok-put_flag.ensures (puts_error (c.args.end.now) _ c.from_residual-in_err-put.result c.from_residual-in_err-put.ensures.1 c.in_err-put.ensures))))

pub returns : goal.returns
returns g c = puts_both c.in_ok-put_number.ensures (puts_both c.in_ok-put_number-2.ensures (puts_both c.in_ok-put_number-3.ensures (puts_both c.in_ok-put_flag.ensures (puts_both c.in_ok-put.ensures c.put-2.ensures))))
