use Rattle.std.proofs.Common.{◌≡◌, ◌+◌, ◌*◌, [], ◌++◌, flat_map, get_or, length, take}
use Rattle.std.specs.List.{range_with_len}
use Rattle.vm_field.specs.Limbs.{limbs_from, list_of}
use Rattle.gadget_bits.specs.Record.{olds_of}
use Rattle.chip_sha_main.proofs.fill.put_olds.Given as goal

abbrev pub invariant-loop-i : goal.invariant-loop-i
invariant-loop-i l = record { long : length l.rest ≡ length l.fn.rest; front : take (l.at + 4 * l.i) l.rest ≡ take l.at l.fn.rest ++ flat_map (λ i. list_of (limbs_from (get_or (olds_of l.done) (l.from + i) []))) (range_with_len 0 l.i) }
