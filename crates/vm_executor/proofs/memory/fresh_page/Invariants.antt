use Rattle.std.proofs.Common.{◌≡◌, ℕ, ◌<◌}
use Rattle.vm_trace.specs.Pages.{IsWhole, block_word, page_space, block_pointer}
use Rattle.vm_transpile.specs.Start.{start_blocks}
use Rattle.vm_executor.proofs.memory.fresh_page.Given as goal

abbrev pub invariant-loop-block : goal.invariant-loop-block
invariant-loop-block l = record {
  labelled : l.page.label ≡ l.label;
  whole : IsWhole l.page;
  words : (b : ℕ) → b < l.block → block_word l.page.new b ≡ start_blocks l.image (page_space l.label) (block_pointer l.label b);
}
