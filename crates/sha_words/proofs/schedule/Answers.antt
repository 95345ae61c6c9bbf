use Rattle.std.proofs.Common.{◌≡◌, ℕ, take, refl, sym, ap, ◌∙◌, arith}
use Rattle.std.proofs.Math.Seq.{take-length}
use Rattle.std.proofs.lemmas.List.{length-set}
use Rattle.sha_words.specs.Sha256.{schedule}
use Rattle.sha_words.proofs.ScheduleLemmas.{schedule-push}
use Rattle.sha_words.proofs.schedule.Goals as goal

pub loop-t-init : goal.loop-t-init
unfolding schedule
loop-t-init c = record { long = refl; filled = refl }

pub loop-t-preserved : goal.loop-t-preserved
loop-t-preserved c = record {
  long = length-set c.loop-t.words c.loop-t.t _ ∙ c.loop-t.invariant.long;
  filled = schedule-push c.args.block.now c.loop-t.words c.loop-t.t _ (omega arith) c.loop-t.invariant.filled c.schedule_word.ensures;
}

pub returns : goal.returns
returns c =
    let end : c.loop-t.t ≡ 80 = omega arith in
    let whole : c.loop-t.words ≡ take 80 c.loop-t.words = sym (take-length c.loop-t.words) ∙ ap (λ (n : ℕ). take n c.loop-t.words) c.loop-t.invariant.long in
    whole ∙ rw end at c.loop-t.invariant.filled
