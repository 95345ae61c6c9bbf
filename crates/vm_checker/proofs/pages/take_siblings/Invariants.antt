use Rattle.std.proofs.Common.{◌≡◌, length}
use Rattle.table_format.specs.Order.{digests}
use Rattle.table_format.proofs.Drawn.{Drew}
use Rattle.vm_checker.proofs.pages.take_siblings.Given as goal

-- the siblings so far
abbrev pub invariant-loop : goal.invariant-loop
invariant-loop g l = record {
  drew : Drew (digests l.counter) l.initial.stream l.stream (g.H.Host.state l.initial.host) (g.H.Host.state l.host) l.siblings.items;
  number : length l.siblings.items ≡ l.counter;
}
