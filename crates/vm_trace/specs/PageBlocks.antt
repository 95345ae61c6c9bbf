-- Pages as the virtual machine's memory of blocks has them.
use Rattle.std.specs.Prelude.{◌≡◌, ℕ, ◌+◌, ◌*◌, ◌%◌, ◌<◌, ◌≤◌, List, Contains}
use Rattle.std.specs.List.{AllByRecursion}
use Rattle.vm_isa.specs.Blocks.{Blocks, space_size}
use Rattle.vm_trace.specs.declared.page.TheConstants.{SPACE_PAGES}
use Rattle.vm_trace.specs.declared.page.Touched.{Touched}
use Rattle.vm_trace.specs.Pages.{page_space, block_pointer, block_word}

-- the 64 bytes of a page lie in its space
abbrev pub IsPage : ℕ → Type 0
IsPage label = 64 * (label % SPACE_PAGES) + 64 ≤ space_size (page_space label)

abbrev pub ArePages : List Touched → Type 0
ArePages pages = AllByRecursion (λ (page : Touched). IsPage page.label) pages

-- a place is a block of one of the pages
pub record InPages (pages : List Touched) (space pointer : ℕ) : Type 0 where
  pub page : Touched
  pub stands : Contains pages page
  pub block : ℕ
  pub below : block < 16
  pub is_space : space ≡ page_space page.label
  pub is_pointer : pointer ≡ block_pointer page.label block

-- the blocks have the pages' old words
pub record HasOldWords (pages : List Touched) (blocks : Blocks) : Type 0 where
  pub has : (page : Touched) (block : ℕ) → Contains pages page → block < 16 → blocks (page_space page.label) (block_pointer page.label block) ≡ block_word page.old block

-- the blocks have the pages' new words, and elsewhere what they had
pub record HasNewWords (pages : List Touched) (old new : Blocks) : Type 0 where
  pub has : (page : Touched) (block : ℕ) → Contains pages page → block < 16 → new (page_space page.label) (block_pointer page.label block) ≡ block_word page.new block
  pub other : (space pointer : ℕ) → (InPages pages space pointer → ⊥) → new space pointer ≡ old space pointer
