use Rattle.air_core.specs.Ring.{field}
use Rattle.std.proofs.Common.{◌≡◌, drop}
use Rattle.air_core.specs.Flags.{sum_from}
use Rattle.gadget_bits.specs.Sum.{lows}
use Rattle.gadget_bits.proofs.sum.low_sum.Given as goal

abbrev pub invariant-loop-word : goal.invariant-loop-word
invariant-loop-word l = sum_from field l.sum (lows (drop l.word-index l.words)) ≡ sum_from field 0 (lows l.words)
