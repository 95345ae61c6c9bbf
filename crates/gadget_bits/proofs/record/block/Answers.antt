use Rattle.std.proofs.Common.{◌≡◌, ℕ, ◌+◌, ◌*◌, List, ◌++◌, length, take, sym, ap, ◌∙◌, arith}
use Rattle.std.proofs.lemmas.List.{length-map}
use Rattle.gadget_bits.specs.Record.{olds_of}
use Rattle.gadget_bits.proofs.RecordReads.{block_more}
use Rattle.gadget_bits.proofs.record.block.Goals as goal

pub loop-j-preserved : goal.loop-j-preserved
loop-j-preserved c =
    let done = c.args.done.now in
    let j = c.loop-j.j in
    let long : length (olds_of done) ≡ 26 = length-map done.accesses (λ a. a.access.old) ∙ c.requires in
    let place : 4 * (j + 1) ≡ 4 * j + 4 = omega arith in
    record {
      long = c.put_bytes.ensures.long;
      front = ap (λ (k : ℕ). take k c.put_bytes.new.block) place ∙ c.put_bytes.ensures.front ∙ ap (λ (xs : List ℕ). xs ++ c.old_word-word.result) c.loop-j.invariant.front
          ∙ sym (block_more (olds_of done) 2 j c.old_word-word.result (omega (arith, long)) c.old_word-word.ensures);
    }
