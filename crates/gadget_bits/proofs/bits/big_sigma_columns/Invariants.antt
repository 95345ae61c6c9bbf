use Rattle.air_core.specs.Ring.{field}
use Rattle.std.proofs.Common.{◌≡◌, ℕ, ◌<◌, get_or, length}
use Rattle.gadget_bits.specs.Bits.{xor3_of, turned}
use Rattle.gadget_bits.proofs.bits.big_sigma_columns.Given as goal

abbrev pub invariant-loop-i : goal.invariant-loop-i
invariant-loop-i l = record { long : length l.all ≡ 32; are : (k : ℕ) → k < l.i → get_or l.all k 0 ≡ xor3_of field (turned field l.bits l.j k) (turned field l.bits l.k k) (turned field l.bits l.l k) }
