use Rattle.std.proofs.Common.{◌+◌, ◌-◌, ◌≤◌, length}
use Rattle.vm_host.specs.ReadUpTo.{Took}
use Rattle.vm_host.proofs.read_by_pieces.Given as goal

abbrev pub invariant-pieces : goal.invariant-pieces
invariant-pieces g l = record {
  took : Took l.slot (g.H.Host.state l.initial.host) (g.H.Host.state l.host) l.bytes.items;
  short : length l.bytes.items ≤ l.limit + 1;
}

abbrev pub decreases-pieces : goal.decreases-pieces
decreases-pieces g l = l.limit + 1 - length l.bytes.items
