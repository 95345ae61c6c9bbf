use Rattle.table_format.proofs.Putting.{puts_both, puts_error}
use Rattle.table_format.specs.Texts.{number_text}
use Rattle.table_format.proofs.table_writer.writing.put_head.Goals as goal

pub returns-in_err-put : goal.returns-in_err-put
returns-in_err-put g c = puts_error (number_text c.args.version) _ c.from_residual.result c.from_residual.ensures.1 c.in_err-put.ensures

pub returns : goal.returns
returns g c = puts_both c.in_ok-put.ensures c.put_number.ensures
