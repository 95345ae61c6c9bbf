use Rattle.std.proofs.Common.{◌≡◌, ℕ, ◌+◌, ◌*◌, ◌<◌, get_or, length, slice_index}
use Rattle.vm_field.specs.Limbs.{limbs_by}
use Rattle.air_core.specs.Ring.{field}
use Rattle.gadget_bits.specs.declared.halves.Halves.{Halves}
use Rattle.chip_sha_main.specs.Main.{word_halves}
use Rattle.chip_sha_main.proofs.words.state_halves.Given as goal

abbrev pub invariant-loop-i : goal.invariant-loop-i
invariant-loop-i l = record { long : length l.all ≡ 8; are : (k : ℕ) (d : Halves ℕ) → k < l.i → get_or l.all k d ≡ word_halves field (limbs_by (slice_index l.rest) (74 + 4 * k)) }
