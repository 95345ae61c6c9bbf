use Rattle.std.proofs.Common.{◌≡◌, ◌-◌, take, drop, length, replicate}
use Rattle.bus_core.proofs.short.ShortTuple.of_elements.Given as goal

-- behind the numbers so far there are zeros
abbrev pub invariant-loop-i : goal.invariant-loop-i
invariant-loop-i l = record { long : length l.numbers ≡ 8; same : take l.i l.numbers ≡ take l.i l.elements; rest : drop l.i l.numbers ≡ replicate (8 - l.i) 0 }
