use Rattle.std.proofs.Common.{◌≡◌, ◌++◌, map, take}
use Rattle.acceptance.specs.Spelled.{low_byte}
use Rattle.vm_checker.proofs.spelled.push_word.Given as goal

-- the bytes so far
abbrev pub invariant-loop-limb : goal.invariant-loop-limb
invariant-loop-limb l = l.bytes.items ≡ l.fn.bytes.items ++ map low_byte (take l.limb-index l.word)
