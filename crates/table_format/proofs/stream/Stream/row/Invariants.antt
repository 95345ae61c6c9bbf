use Rattle.std.proofs.Common.{◌≡◌, length}
use Rattle.table_format.specs.Order.{elements}
use Rattle.table_format.proofs.Drawn.{Drew}
use Rattle.table_format.proofs.stream.Stream.row.Given as goal

-- the values so far
abbrev pub invariant-values : goal.invariant-values
invariant-values g l = record {
  drew : Drew (elements l.counter) l.fn.self l.self (g.H.Host.state l.fn.host) (g.H.Host.state l.host) l.buffer.items;
  wide : length l.buffer.items ≡ l.counter;
}
