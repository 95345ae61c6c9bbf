use Rattle.std.proofs.Common.{◌≡◌, length, take}
use Rattle.table_format.specs.Order.{elements}
use Rattle.table_format.proofs.Drawn.{Drew}
use Rattle.table_format.proofs.stream.Stream.times.Given as goal

-- the times so far
abbrev pub invariant-times : goal.invariant-times
invariant-times g l = record {
  drew : Drew (elements l.block) l.fn.self l.self (g.H.Host.state l.fn.host) (g.H.Host.state l.host) (take l.block l.times);
  size : length l.times ≡ 16;
}
