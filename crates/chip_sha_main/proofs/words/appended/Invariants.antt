use Rattle.std.proofs.Common.{◌≡◌, ◌+◌, ◌++◌, length, take}
use Rattle.chip_sha_main.proofs.words.appended.Given as goal

abbrev pub invariant-loop-i : goal.invariant-loop-i
invariant-loop-i l = record { long : length l.all ≡ 24; front : take l.i l.all ≡ take l.i l.state }

abbrev pub invariant-loop-j : goal.invariant-loop-j
invariant-loop-j l = record { long : length l.all ≡ 24; front : take (8 + l.j) l.all ≡ l.state ++ take l.j l.words }
