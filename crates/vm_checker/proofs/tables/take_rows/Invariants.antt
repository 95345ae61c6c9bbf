use Rattle.vm_checker.proofs.RowsTaken.{RowsSo}
use Rattle.vm_checker.proofs.tables.take_rows.Given as goal

abbrev pub invariant-loop-place : goal.invariant-loop-place
invariant-loop-place g l = RowsSo (g.E.Extension.system l.ext) l.segment l.table l.place l.fn.stream l.stream (g.H.Host.state l.fn.host) (g.H.Host.state l.host) l.fn.tally l.tally
