use Rattle.std.proofs.lemmas.List.{append-nil}
use Rattle.table_format.proofs.Putting.{puts_both, puts_as}
use Rattle.table_format.proofs.Closing.{wrote_part, wrote_closed, closed}
use Rattle.table_format.proofs.table_writer.writing.write_end.Goals as goal

pub returns-in_err-put_end-clause-wrote : goal.returns-in_err-put_end-clause-wrote
returns-in_err-put_end-clause-wrote g c = wrote_part _ c.from_residual.result c.from_residual.ensures.1 c.requires.none c.in_err-put_end.ensures

pub returns-in_err-flush-clause-wrote : goal.returns-in_err-flush-clause-wrote
returns-in_err-flush-clause-wrote g c =
    wrote_part _ c.from_residual-in_err-flush.result c.from_residual-in_err-flush.ensures.1 c.requires.none (puts_as (append-nil _) (puts_both c.in_ok-put_end.ensures c.in_err-flush.ensures.puts))

pub returns-clause-wrote : goal.returns-clause-wrote
returns-clause-wrote g c = wrote_closed c.finish.result c.requires.none (puts_as (append-nil _) (puts_both c.in_ok-put_end.ensures c.in_ok-flush.ensures.puts)) c.in_ok-flush.ensures.none c.finish.ensures

pub returns-clause-closed : goal.returns-clause-closed
returns-clause-closed g c = closed c.finish.result c.finish.ensures
