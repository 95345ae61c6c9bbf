use Rattle.std.proofs.Common.{◌≡◌, ◌+◌, length}
use Rattle.sha_tests.proofs.tests.step.Given as goal

abbrev pub invariant-loop-j : goal.invariant-loop-j
invariant-loop-j l = length l.accesses ≡ 2 + l.j

abbrev pub invariant-loop-j-2 : goal.invariant-loop-j-2
invariant-loop-j-2 l = length l.accesses ≡ 18 + l.j
