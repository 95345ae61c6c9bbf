use Rattle.std.proofs.Common.{◌≡◌, ℕ, ◌+◌, ◌*◌, ◌<◌, length, slice_index, get_or}
use Rattle.gadget_bits.specs.declared.halves.Halves.{Halves}
use Rattle.gadget_bits.specs.Bits.{halves_at}
use Rattle.chip_sha_main.proofs.words.halves_by.Given as goal

abbrev pub invariant-loop-i : goal.invariant-loop-i
invariant-loop-i g l = record { long : length l.all ≡ g.row.N; are : (k : ℕ) (d : Halves ℕ) → k < l.i → get_or l.all k d ≡ halves_at (slice_index l.rest) (l.at + 2 * k) }
