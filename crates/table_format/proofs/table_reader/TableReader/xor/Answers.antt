use Rattle.table_format.proofs.Drawn.{drew_is}
use Rattle.table_format.proofs.Advancing.{then_reads, none_left}
use Rattle.table_format.proofs.table_reader.TableReader.xor.Goals as goal

pub returns : goal.returns
returns g c = none_left _ c.args.left c.if-left-gt0.false (record { reads = then_reads _ c.range.result (drew_is c.in_ok-number.ensures) c.range.ensures.reads; form = c.range.ensures.form; error = c.range.ensures.error })
