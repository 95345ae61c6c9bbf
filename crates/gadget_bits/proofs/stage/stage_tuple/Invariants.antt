use Rattle.std.proofs.Common.{◌≡◌, ◌+◌, ◌*◌, ◌∷◌, length, take}
use Rattle.gadget_bits.specs.Stage.{halves_cells}
use Rattle.gadget_bits.proofs.stage.stage_tuple.Given as goal

abbrev pub invariant-loop-i : goal.invariant-loop-i
invariant-loop-i l = record { long : length l.all ≡ 50; front : take (2 + 2 * l.i) l.all ≡ l.fn.time ∷ l.fn.level ∷ halves_cells (take l.i l.words) }
