use Rattle.std.proofs.Common.{◌≡◌, ◌+◌, ◌*◌, flat_map, length, take, slice_index}
use Rattle.std.specs.List.{range_with_len}
use Rattle.vm_field.specs.Limbs.{limbs_by}
use Rattle.air_core.specs.Ring.{field}
use Rattle.gadget_bits.specs.Bits.{halves_at}
use Rattle.chip_sha_main.specs.Main.{carry_bits}
use Rattle.chip_sha_main.proofs.words.carries.Given as goal

abbrev pub invariant-loop-i : goal.invariant-loop-i
invariant-loop-i l = record {
  long : length l.all ≡ 16;
  front : take (2 * l.i) l.all ≡ flat_map (λ i. carry_bits field (limbs_by (slice_index l.rest) (74 + 4 * i)) (halves_at (slice_index l.rest) (138 + 2 * i)) (limbs_by (slice_index l.rest) (106 + 4 * i))) (range_with_len 0 l.i);
}
