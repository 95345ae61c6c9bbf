use Rattle.std.proofs.Common.{◌≡◌, length, take}
use Rattle.table_format.specs.Order.{digests}
use Rattle.table_format.proofs.Drawn.{Drew}
use Rattle.table_format.proofs.stream.Stream.path.Given as goal

-- the digests so far
abbrev pub invariant-levels : goal.invariant-levels
invariant-levels g l = record {
  drew : Drew (digests l.level) l.fn.self l.self (g.H.Host.state l.fn.host) (g.H.Host.state l.host) (take l.level l.path);
  size : length l.path ≡ 25;
}
