use Rattle.vm_checker.proofs.RowsTaken.{TablesSo}
use Rattle.vm_checker.proofs.tables.take_tables.Given as goal

abbrev pub invariant-loop-table : goal.invariant-loop-table
invariant-loop-table g l = TablesSo (g.E.Extension.system l.ext) l.segment l.codes l.table l.fn.stream l.stream (g.H.Host.state l.fn.host) (g.H.Host.state l.host) l.fn.tally l.tally
