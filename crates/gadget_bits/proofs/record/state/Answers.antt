use Rattle.std.proofs.Common.{◌≡◌, length, ◌∙◌, arith, length-set}
use Rattle.std.proofs.lemmas.List.{length-map}
use Rattle.gadget_bits.specs.Record.{olds_of}
use Rattle.gadget_bits.proofs.RecordReads.{state_more}
use Rattle.gadget_bits.proofs.record.state.Goals as goal

pub loop-j-preserved : goal.loop-j-preserved
loop-j-preserved c =
    let done = c.args.done.now in
    let long : length (olds_of done) ≡ 26 = length-map done.accesses (λ a. a.access.old) ∙ c.requires in
    record {
      long = length-set c.loop-j.state c.loop-j.j c.of_limbs.result ∙ c.loop-j.invariant.long;
      front = state_more c.loop-j.state (olds_of done) 18 c.loop-j.j c.of_limbs.result c.old_word.result (omega arith) (omega (arith, long)) c.old_word.ensures c.of_limbs.ensures c.loop-j.invariant.front;
    }
