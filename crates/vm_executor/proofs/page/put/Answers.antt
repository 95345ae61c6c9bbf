use Rattle.std.proofs.Common.{ℕ, ◌+◌, ◌*◌, ◌<◌, ◌∙◌, length-set}
use Rattle.vm_transpile.proofs.Kept.{byte_at}
use Rattle.vm_executor.proofs.PageBytes.{leaf_set}
use Rattle.vm_executor.proofs.page.put.Goals as goal

pub returns-clause-whole : goal.returns-clause-whole
returns-clause-whole c = λ whole.
    let word = c.args.word in
    let at = 4 * c.args.block in
    let low : (k : ℕ) → Rattle.std.specs.Prelude.slice_index word k < 256 = λ k. byte_at word k c.is_word.ensures.bytes in
    record {
      old = whole.old;
      new = leaf_set _ (at + 3) _ (low 3) (leaf_set _ (at + 2) _ (low 2) (leaf_set _ (at + 1) _ (low 1) (leaf_set _ at _ (low 0) whole.new)));
      times = length-set _ _ _ ∙ whole.times;
    }
