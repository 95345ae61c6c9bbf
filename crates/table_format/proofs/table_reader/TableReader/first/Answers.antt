use Rattle.table_format.proofs.Drawn.{drew_is}
use Rattle.table_format.proofs.Advancing.{then_reads}
use Rattle.table_format.proofs.table_reader.TableReader.first.Goals as goal

pub returns : goal.returns
returns g c = record { reads = then_reads _ c.mark.result (drew_is c.in_ok-head.ensures.reads) c.mark.ensures.reads; form = c.mark.ensures.form; error = c.mark.ensures.error }
