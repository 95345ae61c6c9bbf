use Rattle.std.proofs.Common.{◌≡◌, ◌+◌, ◌*◌, ◌++◌, length, take}
use Rattle.gadget_bits.specs.Stage.{halves_cells}
use Rattle.gadget_bits.proofs.halves.put_halves.Given as goal

abbrev pub invariant-loop-i : goal.invariant-loop-i
invariant-loop-i l = record { long : length l.row ≡ length l.fn.row; front : take (l.at + 2 * l.i) l.row ≡ take l.at l.fn.row ++ halves_cells (take l.i l.words) }
