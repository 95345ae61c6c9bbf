use Rattle.std.proofs.Common.{◌≡◌}
use Rattle.sha_words.specs.Sha256.{rounds}
use Rattle.gadget_bits.proofs.record.rounds_to.Given as goal

abbrev pub invariant-loop-t : goal.invariant-loop-t
invariant-loop-t l = l.working ≡ rounds l.fn.state l.words l.t
