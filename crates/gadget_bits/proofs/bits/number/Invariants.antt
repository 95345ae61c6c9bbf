use Rattle.air_core.specs.Ring.{field}
use Rattle.std.proofs.Common.{◌≡◌, ◌+◌, slice_index}
use Rattle.gadget_bits.specs.Bits.{number_by}
use Rattle.gadget_bits.proofs.bits.number.Given as goal

abbrev pub invariant-loop-i : goal.invariant-loop-i
invariant-loop-i l = l.sum ≡ number_by field (λ i. slice_index l.bits (i + l.from)) l.i
