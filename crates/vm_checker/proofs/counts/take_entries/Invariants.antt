use Rattle.vm_checker.proofs.CountsTaken.{EntriesSo}
use Rattle.vm_checker.proofs.counts.take_entries.Given as goal

abbrev pub invariant-loop : goal.invariant-loop
invariant-loop g l = EntriesSo l.program l.bus l.end l.counter l.least l.initial.stream l.stream (g.H.Host.state l.initial.host) (g.H.Host.state l.host) l.fn.said l.said
