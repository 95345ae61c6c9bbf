-- Pages and their blocks.
use Rattle.std.specs.Prelude.{◌≡◌, ℕ, ◌<◌, ◌⊎◌, List, map, flat_map, slice_index, Option, Some, IsPermutation}
use Rattle.std.specs.List.{AllByRecursion, range_with_len}
use Rattle.vm_trace.specs.declared.page.Touched.{Touched}
use Rattle.vm_trace.specs.Pages.{page_space, block_pointer, block_word}
use Rattle.vm_trace.specs.PageBlocks.{InPages}
use Rattle.air_core.specs.Orders.{Distinct, Member}
use Rattle.offline_memory.specs.Memory.{Access, Block, InTime, cell_at, first_cell, last_cell, cell_place, met_cell, Replays}
use Rattle.vm_isa.specs.Words.{IsBytes}

abbrev pub block_of : Touched → ℕ → Block
block_of page block = record {
  space = page_space page.label;
  pointer = block_pointer page.label block;
  first = block_word page.old block;
  last = block_word page.new block;
  final = slice_index page.times block;
}

-- the 16 blocks of a page
abbrev pub page_blocks : Touched → List Block
page_blocks page = map (block_of page) (range_with_len 0 16)

-- the blocks of all pages
abbrev pub blocks_of : List Touched → List Block
blocks_of pages = flat_map page_blocks pages

-- no label stands twice
abbrev pub DistinctLabels : List Touched → Type 0
DistinctLabels pages = Distinct (map (λ (page : Touched). page.label) pages)

-- the old bytes of each page are bytes
abbrev pub PagesOfBytes : List Touched → Type 0
PagesOfBytes pages = AllByRecursion (λ (page : Touched). IsBytes page.old) pages

-- the memory of the pages at the start: old words, at time 0
abbrev pub memory_at_start : List Touched → ℕ → ℕ → Option (List ℕ × ℕ)
memory_at_start pages = cell_at (map first_cell (blocks_of pages))

-- the memory of the pages at the end: new words, at their final times
abbrev pub memory_at_end : List Touched → ℕ → ℕ → Option (List ℕ × ℕ)
memory_at_end pages = cell_at (map last_cell (blocks_of pages))

-- the accesses are one sequential memory over the pages
pub record SequentialMemory (pages : List Touched) (accesses : List Access) : Type 0 where
  pub replays : Replays (memory_at_start pages) accesses (memory_at_end pages)
  pub inside : AllByRecursion (λ a. InPages pages a.space a.pointer) accesses

-- in the order of their times they are
pub record OrderedMemory (pages : List Touched) (accesses : List Access) : Type 0 where
  pub ordered : List Access
  pub same_accesses : IsPermutation accesses ordered
  pub in_time : InTime ordered
  pub memory : SequentialMemory pages ordered

-- a time is 0 or that of an access
abbrev pub IsOldTime : List Access → ℕ → Type 0
IsOldTime accesses time = (time ≡ 0) ⊎ Member time (map (λ (a : Access). a.time) accesses)

-- what the two memories have at the blocks of each page
pub record MemoryOfPages (pages : List Touched) : Type 0 where
  pub at_start : (page : Touched) (block : ℕ) → Member page pages → block < 16
      → memory_at_start pages (page_space page.label) (block_pointer page.label block) ≡ Some (block_word page.old block, 0)
  pub at_end : (page : Touched) (block : ℕ) → Member page pages → block < 16
      → memory_at_end pages (page_space page.label) (block_pointer page.label block) ≡ Some (block_word page.new block, slice_index page.times block)

-- no access is at this block
abbrev pub Untouched : Touched → ℕ → List Access → Type 0
Untouched page block accesses = AllByRecursion (λ a. cell_place (met_cell a) ≡ (page_space page.label, block_pointer page.label block) → ⊥) accesses

-- a block without accesses has its old word at the end, and the final time 0
pub record UntouchedStays (pages : List Touched) (accesses : List Access) : Type 0 where
  pub stays : (page : Touched) (block : ℕ) → Member page pages → block < 16 → Untouched page block accesses
      → (block_word page.new block ≡ block_word page.old block) × (slice_index page.times block ≡ 0)
