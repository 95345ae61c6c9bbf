use Rattle.table_format.proofs.Drawn.{drew_is}
use Rattle.table_format.proofs.Advancing.{then_reads, none_left}
use Rattle.table_format.proofs.table_reader.TableReader.constants.Goals as goal

pub returns : goal.returns
returns g c = none_left _ c.args.left c.if-left-gt0.false (record { reads = then_reads _ c.page.result (drew_is c.in_ok-number.ensures) c.page.ensures.reads; form = c.page.ensures.form; error = c.page.ensures.error })
