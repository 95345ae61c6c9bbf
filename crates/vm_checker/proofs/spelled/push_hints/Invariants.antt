use Rattle.std.proofs.Common.{◌≡◌, ◌++◌, map, take}
use Rattle.std.specs.Prelude.{flat_map}
use Rattle.vm_checker.specs.Kept.{bytes_of, hint_at}
use Rattle.vm_checker.proofs.spelled.push_hints.Given as goal

-- the bytes so far
abbrev pub invariant-loop-place : goal.invariant-loop-place
invariant-loop-place l = l.bytes.items ≡ l.fn.bytes.items ++ flat_map bytes_of (map (hint_at l.hints) (take l.place-index l.place-items))
