use Rattle.vm_checker.proofs.ChainTaken.{ChainSo}
use Rattle.vm_checker.proofs.chain.take_segments.Given as goal

abbrev pub invariant-loop : goal.invariant-loop
invariant-loop g l = ChainSo (g.E.Extension.system l.ext) l.image l.version l.counter l.fn.stream l.stream (g.H.Host.state l.fn.host) (g.H.Host.state l.host) l.chain
