use Rattle.std.proofs.Common.{◌≡◌, ◌*◌, length, take, drop}
use Rattle.std.specs.List.{concat}
use Rattle.gadget_bits.specs.Record.{olds_of}
use Rattle.gadget_bits.proofs.record.block.Given as goal

abbrev pub invariant-loop-j : goal.invariant-loop-j
invariant-loop-j l = record { long : length l.block ≡ 64; front : take (4 * l.j) l.block ≡ concat (take l.j (drop 2 (olds_of l.done))) }
