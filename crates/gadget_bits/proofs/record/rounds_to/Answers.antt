use Rattle.std.proofs.Common.{refl}
use Rattle.sha_words.specs.Sha256.{rounds}
use Rattle.sha_words.proofs.RoundLemmas.{rounds-step}
use Rattle.gadget_bits.proofs.record.rounds_to.Goals as goal

pub loop-t-init : goal.loop-t-init
unfolding rounds
loop-t-init c = refl

pub loop-t-preserved : goal.loop-t-preserved
loop-t-preserved c =
    rounds-step c.args.state c.args.words.now c.loop-t.working c.loop-t.t _ _ _ c.loop-t.invariant refl refl c.round-next.ensures
