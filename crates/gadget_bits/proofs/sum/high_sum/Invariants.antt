use Rattle.air_core.specs.Ring.{field}
use Rattle.std.proofs.Common.{◌≡◌, drop}
use Rattle.air_core.specs.Flags.{sum_from}
use Rattle.gadget_bits.specs.Sum.{highs}
use Rattle.gadget_bits.proofs.sum.high_sum.Given as goal

abbrev pub invariant-loop-word : goal.invariant-loop-word
invariant-loop-word l = sum_from field l.sum (highs (drop l.word-index l.words)) ≡ sum_from field 0 (highs l.words)
