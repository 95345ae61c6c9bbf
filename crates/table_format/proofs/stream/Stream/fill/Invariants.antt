use Rattle.std.proofs.Common.{◌≡◌, ◌-◌, ◌≤◌, length, take}
use Rattle.table_format.specs.Stream.{Draws}
use Rattle.table_format.proofs.stream.Stream.fill.Given as goal

-- what was given stands in the buffer's front
abbrev pub invariant-pieces : goal.invariant-pieces
invariant-pieces g l = record {
  got : (d : Draws l.initial.self l.self (g.H.Host.state l.initial.host) (g.H.Host.state l.host)) × (d.given ≡ take l.filled l.into);
  within : l.filled ≤ length l.into;
}

abbrev pub decreases-pieces : goal.decreases-pieces
decreases-pieces g l = length l.into - l.filled
