use Rattle.air_core.specs.Ring.{field}
use Rattle.std.proofs.Common.{◌≡◌, ℕ, ◌<◌, get_or, length, slice_index}
use Rattle.gadget_bits.specs.Bits.{majority_of}
use Rattle.gadget_bits.proofs.bits.majority_columns.Given as goal

abbrev pub invariant-loop-i : goal.invariant-loop-i
invariant-loop-i l = record { long : length l.all ≡ 32; are : (k : ℕ) → k < l.i → get_or l.all k 0 ≡ majority_of field (slice_index l.x k) (slice_index l.y k) (slice_index l.z k) }
