use Rattle.std.proofs.Common.{◌≡◌, take}
use Rattle.std.specs.Prelude.{IsTrue}
use Rattle.std.specs.List.{AllByRecursion}
use Rattle.vm_filler.proofs.entries.are_unused.Given as goal

-- those so far are 0, if none was used
abbrev pub invariant-loop-place : goal.invariant-loop-place
invariant-loop-place l = IsTrue l.unused → AllByRecursion (λ count. count ≡ 0) (take l.place l.counts)
