-- Memory as it is kept: pages by their labels, and the start of the run wherever no page is kept.
use Rattle.std.specs.Prelude.{◌≡◌, ℕ, true, ◌+◌, ◌*◌, ◌/◌, ◌%◌, ◌<◌, List, [], ◌∷◌, All, replicate, slice_index, nat_eq, if◌then◌else◌, Option, Some, None}
use Rattle.std.specs.BTreeMap.{is_at}
use Rattle.std.specs.Map.{lookup}
use Rattle.std.specs.Option.{option_map}
use Rattle.std.specs.Ordering.{nat_cmp}
use Rattle.elf_image.specs.Loaded.{Loaded}
use Rattle.vm_isa.specs.Blocks.{Blocks, is_block, with_block}
use Rattle.vm_trace.specs.declared.page.TheConstants.{SPACE_PAGES}
use Rattle.vm_trace.specs.declared.page.Touched.{Touched}
use Rattle.vm_trace.specs.Pages.{block_pointer, block_word, page_space, IsMachineLabel, IsWhole}
use Rattle.vm_transpile.specs.Start.{start_blocks}
use Rattle.vm_executor.specs.Machine.{with_time}
use Rattle.vm_executor.specs.declared.block.Reached.{Reached}
use Rattle.vm_executor.specs.Pages.{Times, never, begun_page}

-- what the file gives; the pages that were reached since the run began, each with its bytes at the segment's start;
-- and the places of those that were reached in the segment, by their labels
pub record Kept : Type 0 where
  pub loaded : Loaded
  pub pages : List Touched
  pub reached : List (ℕ × ℕ)

-- the place that a list of labels and places has for a label
abbrev pub entry_at : List (ℕ × ℕ) → ℕ → Option ℕ
entry_at entries label = lookup (is_at (nat_cmp label)) entries

-- the place of the first page of a label
unfoldable pub place_at : List Touched → ℕ → Option ℕ
place_at [] label = None
place_at (page ∷ pages) label = if nat_eq page.label label then Some 0 else option_map (λ k. k + 1) (place_at pages label)

-- the page
unfoldable pub page_at : List Touched → ℕ → Option Touched
page_at [] label = None
page_at (page ∷ pages) label = if nat_eq page.label label then Some page else page_at pages label

-- the label of a block's page, and which of the page's blocks it is
abbrev pub label_of : ℕ → ℕ → ℕ
label_of space pointer = SPACE_PAGES * space + pointer / 64

abbrev pub block_in : ℕ → ℕ
block_in pointer = pointer % 64 / 4

abbrev pub word_by : (Touched → List ℕ) → Option Touched → ℕ → List ℕ → List ℕ
word_by side None block other = other
word_by side (Some page) block other = block_word (side page) block

abbrev pub time_by : Option Touched → ℕ → ℕ
time_by None block = 0
time_by (Some page) block = slice_index page.times block

unfoldable pub blocks_by : (Touched → List ℕ) → Kept → Blocks
blocks_by side kept space pointer =
    if is_block space pointer
    then word_by side (page_at kept.pages (label_of space pointer)) (block_in pointer) (start_blocks kept.loaded space pointer)
    else start_blocks kept.loaded space pointer

-- the blocks now, and where the segment began
abbrev pub now_of : Kept → Blocks
now_of = blocks_by (λ page. page.new)

abbrev pub began_of : Kept → Blocks
began_of = blocks_by (λ page. page.old)

-- the time of each block's last access in the segment
unfoldable pub times_of : Kept → Times
times_of kept space pointer =
    if is_block space pointer then time_by (page_at kept.pages (label_of space pointer)) (block_in pointer) else 0

-- a block that wasn't accessed in the segment has its first word
pub record IsIdle (page : Touched) : Type 0 where
  pub stays : (block : ℕ) → block < 16 → slice_index page.times block ≡ 0 → block_word page.new block ≡ block_word page.old block

-- whole pages of the machine
pub record AreKept (pages : List Touched) : Type 0 where
  pub machine : All (λ page. IsMachineLabel page.label) pages
  pub whole : All IsWhole pages
  pub idle : All IsIdle pages

-- a page, where there is one, is as where a segment begins
abbrev pub IsAtRest : Option Touched → Type 0
IsAtRest None = Unit {0}
IsAtRest (Some page) = begun_page page ≡ page

-- The pages that were reached in the segment are kept, and all others are at rest.
pub record IsSegment (kept : Kept) : Type 0 where
  pub stands : (label place : ℕ) → entry_at kept.reached label ≡ Some place → place_at kept.pages label ≡ Some place
  pub rests : (label : ℕ) → entry_at kept.reached label ≡ None → IsAtRest (page_at kept.pages label)

-- a block of a page that was reached in the segment, with the page's place
pub record IsReached (kept : Kept) (block : Reached) : Type 0 where
  pub on : is_block block.space block.pointer ≡ true
  pub at : entry_at kept.reached (label_of block.space block.pointer) ≡ Some block.page

-- what was reached is reached
abbrev pub StaysReached : Kept → Kept → Type 0
StaysReached old new = (label place : ℕ) → entry_at old.reached label ≡ Some place → entry_at new.reached label ≡ Some place

-- The page of a block was put into: the blocks now, at the segment's start, and their times.
pub record PutBlock (old new : Kept) (space pointer : ℕ) (word : List ℕ) (time : ℕ) : Type 0 where
  pub now : now_of new ≡ with_block (now_of old) space pointer word
  pub began : began_of new ≡ began_of old
  pub times : times_of new ≡ with_time (times_of old) space pointer time

-- a page as it was where the run began, without times
pub record IsFresh (loaded : Loaded) (page : Touched) : Type 0 where
  pub words : (block : ℕ) → block < 16 → block_word page.new block ≡ start_blocks loaded (page_space page.label) (block_pointer page.label block)
  pub same : page.old ≡ page.new
  pub times : page.times ≡ replicate 16 0

-- the blocks and their times stay
pub record KeepsAll (old new : Kept) : Type 0 where
  pub now : now_of new ≡ now_of old
  pub began : began_of new ≡ began_of old
  pub times : times_of new ≡ times_of old

-- a segment begins
pub record Begins (old new : Kept) : Type 0 where
  pub now : now_of new ≡ now_of old
  pub began : began_of new ≡ now_of old
  pub times : times_of new ≡ never
