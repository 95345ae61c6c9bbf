use Rattle.std.proofs.Common.{◌≡◌, ◌+◌, ◌^◌}
use Rattle.bus_core.specs.Sums.{room_of}
use Rattle.bus_core.proofs.tests.balance_of.Given as goal

abbrev pub invariant-loop-event : goal.invariant-loop-event
invariant-loop-event l = room_of l.balance + l.event-index ≡ 2 ^ 96
