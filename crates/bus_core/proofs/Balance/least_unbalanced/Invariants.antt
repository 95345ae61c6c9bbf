use Rattle.std.proofs.Common.{◌++◌}
use Rattle.bus_core.proofs.Leasts.{IsLeastBut}
use Rattle.bus_core.proofs.Balance.least_unbalanced.Given as goal

-- so far it is the least of all places but those that are left
abbrev pub invariant-loop-place : goal.invariant-loop-place
invariant-loop-place l = IsLeastBut l.self (l.place-iterator ++ l.self.long) l.least

abbrev pub invariant-loop-place-2 : goal.invariant-loop-place-2
invariant-loop-place-2 l = IsLeastBut l.self l.place-iterator l.least
