-- What a machine's memory is between two records, and its pages.
use Rattle.std.specs.Prelude.{◌≡◌, ◌≢◌, ◌⊎◌, ℕ, ◌+◌, ◌*◌, ◌/◌, ◌<◌, ◌≤◌, List, All, map, replicate, slice_index, Option, Some}
use Rattle.std.specs.List.Sorted.{IsStrictlyIncreasing}
use Rattle.vm_isa.specs.Blocks.{Blocks}
use Rattle.air_core.specs.Orders.{Member}
use Rattle.vm_trace.specs.declared.page.Touched.{Touched}
use Rattle.offline_memory.specs.Memory.{Access}
use Rattle.vm_trace.specs.declared.page.TheConstants.{SPACE_PAGES}
use Rattle.vm_trace.specs.Pages.{page_space, block_pointer, block_word, IsMachineLabel, IsWhole}
use Rattle.vm_trace.specs.PageBlocks.{InPages}

-- the time of each block's last access, and 0 where there was none
abbrev pub Times : Type 0
Times = ℕ → ℕ → ℕ

-- words with the times of their last accesses, as a memory of cells
abbrev pub with_times : Blocks → Times → ℕ → ℕ → Option (List ℕ × ℕ)
with_times blocks times space pointer = Some (blocks space pointer, times space pointer)

abbrev pub never : Times
never space pointer = 0

-- Pages show where the blocks began, where they are now, and the times of their last accesses.
pub record Shows (pages : List Touched) (start now : Blocks) (times : Times) : Type 0 where
  pub old : (page : Touched) (block : ℕ) → Member page pages → block < 16 → block_word page.old block ≡ start (page_space page.label) (block_pointer page.label block)
  pub new : (page : Touched) (block : ℕ) → Member page pages → block < 16 → block_word page.new block ≡ now (page_space page.label) (block_pointer page.label block)
  pub time : (page : Touched) (block : ℕ) → Member page pages → block < 16 → slice_index page.times block ≡ times (page_space page.label) (block_pointer page.label block)

-- some block of the page was accessed
pub record HasAccess (page : Touched) : Type 0 where
  pub block : ℕ
  pub within : block < 16
  pub accessed : 1 ≤ slice_index page.times block

-- The pages of a segment, in rising order of their labels: those of the machine with an accessed block, as the segment
-- found them and as they are now. A block is in one of them, or has the word that it began with, and no time.
pub record AreTouched (start now : Blocks) (times : Times) (pages : List Touched) : Type 0 where
  pub rising : IsStrictlyIncreasing (map (λ page. page.label) pages)
  pub machine : All (λ page. IsMachineLabel page.label) pages
  pub whole : All IsWhole pages
  pub accessed : All HasAccess pages
  pub shows : Shows pages start now times
  pub others : (space pointer : ℕ) → InPages pages space pointer ⊎ ((now space pointer ≡ start space pointer) × (times space pointer ≡ 0))

-- a block of the page has one of these accesses
pub record HasAccessOf (accesses : List Access) (page : Touched) : Type 0 where
  pub access : Access
  pub stands : Member access accesses
  pub label_is : page.label ≡ SPACE_PAGES * access.space + access.pointer / 64

-- a page with a word and its time put into a block
pub record IsPut (old new : Touched) (block : ℕ) (word : List ℕ) (time : ℕ) : Type 0 where
  pub word_is : block_word new.new block ≡ word
  pub others : (other : ℕ) → other ≢ block → block_word new.new other ≡ block_word old.new other
  pub time_is : slice_index new.times block ≡ time
  pub other_times : (other : ℕ) → other ≢ block → slice_index new.times other ≡ slice_index old.times other
  pub label_is : new.label ≡ old.label
  pub start_is : new.old ≡ old.old

-- a page where a segment begins
abbrev pub begun_page : Touched → Touched
begun_page page = record { label = page.label; old = page.new; new = page.new; times = replicate 16 0 }
