use Rattle.std.proofs.Common.{◌≡◌, ◌+◌, ◌*◌, ◌++◌, flat_map, get_or, length, take}
use Rattle.std.specs.List.{range_with_len}
use Rattle.gadget_bits.specs.Bits.{halves_filled}
use Rattle.gadget_bits.specs.Stage.{cells_of}
use Rattle.chip_sha_main.proofs.fill.put_halves.Given as goal

abbrev pub invariant-loop-i : goal.invariant-loop-i
invariant-loop-i l = record { long : length l.rest ≡ length l.fn.rest; front : take (l.at + 2 * l.i) l.rest ≡ take l.at l.fn.rest ++ flat_map (λ i. cells_of (halves_filled (get_or l.words i 0))) (range_with_len 0 l.i) }
