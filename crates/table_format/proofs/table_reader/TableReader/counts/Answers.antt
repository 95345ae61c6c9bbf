use Rattle.table_format.proofs.Drawn.{drew_is}
use Rattle.table_format.proofs.Advancing.{then_reads}
use Rattle.table_format.proofs.table_reader.TableReader.counts.Goals as goal

pub returns : goal.returns
returns g c = record { reads = then_reads _ c.program.result (drew_is c.in_ok-left.ensures) c.program.ensures.reads; form = c.program.ensures.form; error = c.program.ensures.error }
