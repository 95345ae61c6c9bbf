use Rattle.std.proofs.lemmas.List.{append-nil}
use Rattle.table_format.proofs.Putting.{puts_waiting, puts_both, puts_as}
use Rattle.table_format.proofs.table_writer.put.put.Goals as goal

pub returns : goal.returns
returns g c = puts_as (append-nil c.args.bytes.now) (puts_both (puts_waiting c.args.bytes.now (g.H.Host.state c.args.host.now) c.in_ok-extend_from_slice.ensures.items) c.settle.ensures)
