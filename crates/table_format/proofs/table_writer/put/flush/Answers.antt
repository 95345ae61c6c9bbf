use Rattle.table_format.proofs.Putting.{puts_piece, puts_refused}
use Rattle.table_format.proofs.table_writer.put.flush.Goals as goal

pub returns-in_err-write-clause-puts : goal.returns-in_err-write-clause-puts
returns-in_err-write-clause-puts g c = puts_refused _ c.from_residual.result c.from_residual.ensures.1 c.deref.ensures.value c.in_err-write.ensures

pub returns-clause-puts : goal.returns-clause-puts
returns-clause-puts g c = puts_piece c.deref.ensures.value c.in_ok-write.ensures c.clear.ensures.items
