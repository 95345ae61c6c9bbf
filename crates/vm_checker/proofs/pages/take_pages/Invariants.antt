use Rattle.vm_checker.proofs.CountsTaken.{PagesSo}
use Rattle.vm_checker.proofs.pages.take_pages.Given as goal

abbrev pub invariant-loop-number : goal.invariant-loop-number
invariant-loop-number g l = PagesSo l.segment l.number l.least l.pages.items l.initial.stream l.stream (g.H.Host.state l.initial.host) (g.H.Host.state l.host) l.fn.said l.said
