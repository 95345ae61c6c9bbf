use Rattle.std.proofs.Common.{◌≡◌, map, take}
use Rattle.vm_checker.specs.Kept.{timed_hint}
use Rattle.vm_checker.proofs.spelled.times.Given as goal

-- the rows so far
abbrev pub invariant-loop-hint : goal.invariant-loop-hint
invariant-loop-hint l = l.rows.items ≡ map timed_hint (take l.hint-index l.hints)
