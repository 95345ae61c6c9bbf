use Rattle.std.proofs.Common.{◌≡◌, ◌+◌, ◌*◌, ◌%◌, sym, ap, ◌∙◌, ⊎_elim, arith}
use Rattle.std.proofs.lemmas.Bool.{cases_eq}
use Rattle.vm_trace.specs.Pages.{block_word, page_space, block_pointer}
use Rattle.vm_transpile.specs.Start.{start_blocks}
use Rattle.vm_executor.proofs.memory.fresh_page.Goals as goal

pub loop-block-preserved : goal.loop-block-preserved
loop-block-preserved c =
    let block = c.loop-block.block in
    let place : c.args.label % 8388608 * 64 + 4 * block ≡ block_pointer c.args.label block = omega arith in
    record {
      labelled = c.put.ensures.put.label_is ∙ c.loop-block.invariant.labelled;
      whole = c.put.ensures.whole c.loop-block.invariant.whole;
      words = λ b low.
          ⊎_elim
          (λ (same : b ≡ block).
          ap (block_word c.put.new.page.new) same ∙ c.put.ensures.put.word_is ∙ c.start_word-word.ensures
          ∙ ap (start_blocks c.args.image.now (page_space c.args.label)) (place ∙ ap (block_pointer c.args.label) (sym same)))
          (λ (other : b ≡ block → ⊥). c.put.ensures.put.others b other ∙ c.loop-block.invariant.words b (omega (arith, low)))
          (cases_eq b block);
    }
