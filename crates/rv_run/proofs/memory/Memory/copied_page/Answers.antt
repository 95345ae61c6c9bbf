use Rattle.std.proofs.Common.{◌≡◌, ℕ, ◌+◌, ◌*◌, ◌-◌, length, sym, ◌∙◌, arith}
use Rattle.std.proofs.lemmas.List.{get_or-replicate, length-replicate}
use Rattle.rv_run.proofs.PageLemmas.{none_left, page_more, no_part}
use Rattle.rv_run.proofs.memory.Memory.copied_page.Goals as goal

pub loop-left-init : goal.loop-left-init
loop-left-init c =
    let loads = c.args.self.now.code.image.now.loads in
    let long : c.loads_len-left.result ≡ length loads = rw c.image-image.ensures at c.loads_len-left.ensures in
    record { within = omega (arith, long); long = length-replicate {A = ℕ} 4096 0; copied = λ k h. get_or-replicate 4096 k 0 0 h ∙ sym (none_left loads c.loads_len-left.result (4096 * c.args.number + k) (omega (arith, long))) }

pub loop-left-preserved-in-Some : goal.loop-left-preserved-in-Some
loop-left-preserved-in-Some c =
    let loads = c.args.self.now.code.image.now.loads in
    let part = rw c.image-image.ensures at c.in-Some.ensures in
    record {
      within = omega (arith, c.loop-left.invariant.within);
      long = c.copy_over.auto.bytes ∙ c.loop-left.invariant.long;
      copied = λ k h. page_more loads c.loop-left.left (c.args.number * 4096) (4096 * c.args.number) k _ _ c.in-Some.load (omega arith) (omega arith) part (c.copy_over.ensures k (omega (arith, h, c.loop-left.invariant.long))) (c.loop-left.invariant.copied k h);
    }

pub loop-left-preserved : goal.loop-left-preserved
loop-left-preserved c =
    let loads = c.args.self.now.code.image.now.loads in
    let part = rw c.image-image.ensures at c.in_default.ensures in
    absurd (no_part loads (c.loop-left.left - 1) part (omega (arith, c.loop-left.invariant.within)))
