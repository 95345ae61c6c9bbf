-- The leaves of a tree as the virtual machine's blocks.
use Rattle.std.specs.Prelude.{◌≡◌, ℕ, ◌+◌, ◌*◌, ◌/◌, ◌%◌, List, true}
use Rattle.vm_isa.specs.Blocks.{Blocks, is_block}
use Rattle.vm_trace.specs.declared.page.TheConstants.{SPACE_PAGES}
use Rattle.vm_trace.specs.Pages.{block_word}
use Rattle.page_tree.specs.Tree.{Leaves}

-- the word of a block: the leaf of its label, space * 2^23 + pointer / 64, has it
abbrev pub map_block : Leaves → ℕ → ℕ → List ℕ
map_block m space pointer = block_word (m (SPACE_PAGES * space + pointer / 64)) (pointer % 64 / 4)

-- wherever the machine has a block, its word is the map's
pub record AreBlocksOf (m : Leaves) (blocks : Blocks) : Type 0 where
  pub each : (space pointer : ℕ) → is_block space pointer ≡ true → blocks space pointer ≡ map_block m space pointer
