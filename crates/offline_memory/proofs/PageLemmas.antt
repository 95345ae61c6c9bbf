-- Pages of different labels have blocks at different places.
use Rattle.std.proofs.Common.{◌≡◌, ℕ, ◌+◌, ◌*◌, ◌<◌, ◌≤◌, ◌⊎◌, inl, inr, zero, suc, List, [], ◌∷◌, map, Some, refl, sym, ap, ◌∙◌, subst, arith}
use Rattle.std.specs.Prelude.{flat_map, slice_index}
use Rattle.std.specs.List.{AllByRecursion, range_with_len}
use Rattle.std.proofs.lemmas.Bool.{cases_lt}
use Rattle.air_core.specs.Counts.{count_of}
use Rattle.air_core.specs.Orders.{Pairwise, Distinct, Member}
use Rattle.air_core.proofs.ElementLemmas.{all_map, all_at, all_flat_map, all_from_members, Image, member_map, member_image, Piece, member_flat_map, member_piece}
use Rattle.air_core.specs.ListLemmas.{all_weaker}
use Rattle.air_core.proofs.Counting.{count_member, member_from_count}
use Rattle.offline_memory.proofs.Pairs.{Pairwise-map, Pairwise-weaker, Pairwise-flat_map, Across}
use Rattle.air_core.proofs.Ordering.{range_within, range-Rises, range_member}
use Rattle.vm_trace.specs.declared.page.Touched.{Touched}
use Rattle.offline_memory.specs.Memory.{Cell, Access, Block, met_cell, left_cell, first_cell, last_cell, same_cell, MemoryBalanced, InTime, cell_place}
use Rattle.vm_isa.specs.Words.{IsBytes}
use Rattle.offline_memory.specs.Bytes.{KeepBytes, HasBytes}
use Rattle.vm_trace.specs.Pages.{page_space, block_pointer, block_word}
use Rattle.vm_trace.specs.PageBlocks.{InPages}
use Rattle.offline_memory.specs.Pages.{block_of, page_blocks, blocks_of, DistinctLabels, PagesOfBytes, SequentialMemory, IsOldTime, MemoryOfPages, memory_at_start, memory_at_end, UntouchedStays}
use Rattle.offline_memory.proofs.MemoryLemmas.{Outstanding, same_cell-IsEquality, replays, inside, cell_at_member, Replays-ends, kept}
use Rattle.offline_memory.proofs.ByteLemmas.{bytes, KeepBytes-rows}
use Rattle.offline_memory.proofs.Members.{contains_from_member}

-- two blocks stand at different places
abbrev ApartBlocks : Block → Block → Type 0
ApartBlocks b c = cell_place (last_cell b) ≡ cell_place (last_cell c) → ⊥

-- the place of a block determines its label and its number
same_label : (k l i j : ℕ) → i < 16 → j < 16 → page_space k ≡ page_space l → block_pointer k i ≡ block_pointer l j → k ≡ l
same_label k l i j hi hj s p = omega arith

same_space : (a b : Cell) → cell_place a ≡ cell_place b → a.space ≡ b.space
same_space a b h = ap (λ (x : ℕ × ℕ). x.0) h

same_pointer : (a b : Cell) → cell_place a ≡ cell_place b → a.pointer ≡ b.pointer
same_pointer a b h = ap (λ (x : ℕ × ℕ). x.1) h

pub below_16 : AllByRecursion (λ i. i < 16) (range_with_len 0 16)
below_16 = all_weaker (λ i. (0 ≤ i) × (i < 0 + 16)) (λ i. i < 16) (λ i h. omega (arith, h.1)) (range_with_len 0 16) (range_within 0 16)

-- the blocks of one page
page_apart : (page : Touched) → Pairwise ApartBlocks (page_blocks page)
page_apart page =
    Pairwise-map ApartBlocks (block_of page) (range_with_len 0 16)
    (Pairwise-weaker (λ i j. i < j) (λ i j. ApartBlocks (block_of page i) (block_of page j))
    (λ i j h e. omega (arith, h, same_pointer (last_cell (block_of page i)) (last_cell (block_of page j)) e))
    (range_with_len 0 16) (range-Rises 0 16))

-- the blocks of two pages
pages_apart : (a b : Touched) → (a.label ≡ b.label → ⊥) → Across ApartBlocks (page_blocks a) (page_blocks b)
pages_apart a b differ =
    all_map (λ u. AllByRecursion (ApartBlocks u) (page_blocks b)) (block_of a) (range_with_len 0 16)
    (all_weaker (λ i. i < 16) (λ i. AllByRecursion (ApartBlocks (block_of a i)) (page_blocks b))
    (λ i hi. all_map (ApartBlocks (block_of a i)) (block_of b) (range_with_len 0 16)
    (all_weaker (λ j. j < 16) (λ j. ApartBlocks (block_of a i) (block_of b j))
    (λ j hj e. differ (same_label a.label b.label i j hi hj
    (same_space (last_cell (block_of a i)) (last_cell (block_of b j)) e)
    (same_pointer (last_cell (block_of a i)) (last_cell (block_of b j)) e)))
    (range_with_len 0 16) below_16))
    (range_with_len 0 16) below_16)

unmapped : (label : ℕ) (pages : List Touched) → AllByRecursion (λ l. label ≡ l → ⊥) (map (λ (page : Touched). page.label) pages) → AllByRecursion (λ (page : Touched). label ≡ page.label → ⊥) pages
unmapped label [] h = tt
unmapped label (page ∷ pages) h = (h.0, unmapped label pages h.1)

labels_apart : (pages : List Touched) → DistinctLabels pages → Pairwise (λ (a b : Touched). a.label ≡ b.label → ⊥) pages
labels_apart [] d = tt
labels_apart (page ∷ pages) d = (unmapped page.label pages d.0, labels_apart pages d.1)

-- the blocks of pages with different labels
blocks_apart : (pages : List Touched) → DistinctLabels pages → Pairwise ApartBlocks (blocks_of pages)
blocks_apart pages labels =
    Pairwise-flat_map ApartBlocks page_blocks pages (all_from_members (λ page. Pairwise ApartBlocks (page_blocks page)) pages (λ page h. page_apart page))
    (Pairwise-weaker (λ (a b : Touched). a.label ≡ b.label → ⊥) (λ a b. Across ApartBlocks (page_blocks a) (page_blocks b)) pages_apart pages (labels_apart pages labels))

pub distinct_places : (pages : List Touched) → DistinctLabels pages → Distinct (map cell_place (map last_cell (blocks_of pages)))
distinct_places pages labels =
    Pairwise-map (λ p q. p ≡ q → ⊥) cell_place (map last_cell (blocks_of pages))
    (Pairwise-map (λ x y. cell_place x ≡ cell_place y → ⊥) last_cell (blocks_of pages) (blocks_apart pages labels))

pub same_places : (blocks : List Block) → map cell_place (map first_cell blocks) ≡ map cell_place (map last_cell blocks)
same_places [] = refl
same_places (b ∷ blocks) = ap (λ (t : List (ℕ × ℕ)). (b.space, b.pointer) ∷ t) (same_places blocks)

-- at the start the first cells are outstanding
pub outstanding_at_start : (pages : List Touched) (accesses : List Access) → DistinctLabels pages → MemoryBalanced (blocks_of pages) accesses → Outstanding (map first_cell (blocks_of pages)) (map last_cell (blocks_of pages)) accesses
outstanding_at_start pages accesses labels balanced = record {
  places = same_places (blocks_of pages);
  distinct = distinct_places pages labels;
  counts = balanced.counts;
}

-- a place of a final cell is a block of a page
in_pages : (pages : List Touched) (space pointer : ℕ) → Member (space, pointer) (map cell_place (map last_cell (blocks_of pages))) → InPages pages space pointer
in_pages pages space pointer h =
    let cell : Image cell_place (space, pointer) (map last_cell (blocks_of pages)) = member_map cell_place (space, pointer) (map last_cell (blocks_of pages)) h in
    let block : Image last_cell cell.of (blocks_of pages) = member_map last_cell cell.of (blocks_of pages) cell.stands in
    let page : Piece page_blocks block.of pages = member_flat_map page_blocks block.of pages block.stands in
    let number : Image (block_of page.of) block.of (range_with_len 0 16) = member_map (block_of page.of) block.of (range_with_len 0 16) page.inside in
    let whole : cell_place (last_cell (block_of page.of number.of)) ≡ (space, pointer) =
    ap (λ (b : Block). cell_place (last_cell b)) number.is ∙ ap cell_place block.is ∙ cell.is in
    record {
      page = page.of;
      stands = contains_from_member page.of pages page.stands;
      block = number.of;
      below = all_at (λ i. i < 16) (range_with_len 0 16) number.of number.stands below_16;
      is_space = sym (ap (λ (x : ℕ × ℕ). x.0) whole);
      is_pointer = sym (ap (λ (x : ℕ × ℕ). x.1) whole);
    }

pub one_memory : (pages : List Touched) (accesses : List Access) → DistinctLabels pages → InTime accesses → MemoryBalanced (blocks_of pages) accesses → SequentialMemory pages accesses
one_memory pages accesses labels time balanced =
    let due = outstanding_at_start pages accesses labels balanced in
    record {
      replays = replays (map first_cell (blocks_of pages)) (map last_cell (blocks_of pages)) accesses time due;
      inside = all_weaker (λ a. Member (a.space, a.pointer) (map cell_place (map last_cell (blocks_of pages)))) (λ a. InPages pages a.space a.pointer)
          (λ a h. in_pages pages a.space a.pointer h) accesses
          (inside (map first_cell (blocks_of pages)) (map last_cell (blocks_of pages)) accesses time due);
    }

byte_at : (bytes : List ℕ) (k : ℕ) → IsBytes bytes → slice_index bytes k < 256
byte_at [] k h = omega arith
byte_at (x ∷ xs) zero h = h.0
byte_at (x ∷ xs) (suc k) h = byte_at xs k h.1

word_bytes : (bytes : List ℕ) (block : ℕ) → IsBytes bytes → IsBytes (block_word bytes block)
word_bytes bytes block h = (byte_at bytes (4 * block) h, (byte_at bytes (4 * block + 1) h, (byte_at bytes (4 * block + 2) h, (byte_at bytes (4 * block + 3) h, tt))))

first_words : (pages : List Touched) → PagesOfBytes pages → AllByRecursion (λ c. IsBytes c.word) (map first_cell (blocks_of pages))
first_words pages h =
    all_map (λ c. IsBytes c.word) first_cell (blocks_of pages)
    (all_flat_map (λ b. IsBytes b.first) page_blocks pages
    (all_weaker (λ (page : Touched). IsBytes page.old) (λ page. AllByRecursion (λ b. IsBytes b.first) (page_blocks page))
    (λ page old. all_map (λ b. IsBytes b.first) (block_of page) (range_with_len 0 16) (all_from_members (λ i. IsBytes (block_word page.old i)) (range_with_len 0 16) (λ i m. word_bytes page.old i old))) pages h))

pub all_bytes : (pages : List Touched) (rows : List (List Access)) → DistinctLabels pages → PagesOfBytes pages → InTime (flat_map (λ row. row) rows) → MemoryBalanced (blocks_of pages) (flat_map (λ row. row) rows)
    → AllByRecursion KeepBytes rows → AllByRecursion HasBytes (flat_map (λ row. row) rows)
all_bytes pages rows labels old time balanced keeps =
    bytes (map first_cell (blocks_of pages)) (map last_cell (blocks_of pages)) (flat_map (λ row. row) rows) time
    (outstanding_at_start pages (flat_map (λ row. row) rows) labels balanced) (first_words pages old) (KeepBytes-rows rows keeps)

time_member : (accesses : List Access) (a : Access) (time : ℕ) → a.time ≡ time → Member a accesses → Member time (map (λ (b : Access). b.time) accesses)
time_member accesses a time e h = subst (λ (t : ℕ). Member t (map (λ (b : Access). b.time) accesses)) e (member_image (λ (b : Access). b.time) a accesses h)

-- a cell that is counted among those sent has time 0 or the time of an access
old_time_by : (blocks : List Block) (accesses : List Access) (c : Cell) → (0 < count_of same_cell c (map first_cell blocks)) ⊎ (count_of same_cell c (map first_cell blocks) ≤ 0)
    → 1 ≤ count_of same_cell c (map first_cell blocks) + count_of same_cell c (map left_cell accesses) → IsOldTime accesses c.time
old_time_by blocks accesses c (inl some) h =
    let b = member_map first_cell c blocks (member_from_count same_cell same_cell-IsEquality c (map first_cell blocks) (omega (arith, some))) in
    inl (sym (ap (λ (x : Cell). x.time) b.is))
old_time_by blocks accesses c (inr none) h =
    let a = member_map left_cell c accesses (member_from_count same_cell same_cell-IsEquality c (map left_cell accesses) (omega (arith, none, h))) in
    inr (time_member accesses a.of c.time (ap (λ (x : Cell). x.time) a.is) a.stands)

pub old_times : (blocks : List Block) (accesses : List Access) → MemoryBalanced blocks accesses → AllByRecursion (λ a. IsOldTime accesses a.before) accesses
old_times blocks accesses balanced =
    all_from_members (λ a. IsOldTime accesses a.before) accesses (λ a h.
    old_time_by blocks accesses (met_cell a) (cases_lt 0 (count_of same_cell (met_cell a) (map first_cell blocks)))
    (omega (arith, balanced.counts (met_cell a), count_member same_cell same_cell-IsEquality (met_cell a) (map met_cell accesses) (member_image met_cell a accesses h))))

-- the blocks of a page stand among the blocks of all pages
pub block_member : (pages : List Touched) (page : Touched) (block : ℕ) → Member page pages → block < 16 → Member (block_of page block) (blocks_of pages)
block_member pages page block h below =
    member_piece page_blocks page (block_of page block) pages h (member_image (block_of page) block (range_with_len 0 16) (range_member 0 16 block (omega arith) (omega (arith, below))))

pub memory_of_pages : (pages : List Touched) → DistinctLabels pages → MemoryOfPages pages
memory_of_pages pages labels = record {
  at_start = λ page block h below.
      cell_at_member (map first_cell (blocks_of pages)) (first_cell (block_of page block))
      (subst (λ (t : List (ℕ × ℕ)). Distinct t) (sym (same_places (blocks_of pages))) (distinct_places pages labels))
      (member_image first_cell (block_of page block) (blocks_of pages) (block_member pages page block h below));
  at_end = λ page block h below.
      cell_at_member (map last_cell (blocks_of pages)) (last_cell (block_of page block)) (distinct_places pages labels)
      (member_image last_cell (block_of page block) (blocks_of pages) (block_member pages page block h below));
}

some_same : (x y : List ℕ × ℕ) → (Some x) ≡ (Some y) → x ≡ y
some_same x y h = cc

pub untouched_stays : (pages : List Touched) (accesses : List Access) → DistinctLabels pages → SequentialMemory pages accesses → UntouchedStays pages accesses
untouched_stays pages accesses labels memory = record {
  stays = λ page block h below away.
      let e =
      some_same (block_word page.new block, slice_index page.times block) (block_word page.old block, 0)
      (sym ((memory_of_pages pages labels).at_end page block h below)
      ∙ sym (Replays-ends (memory_at_start pages) (memory_at_end pages) accesses memory.replays (page_space page.label) (block_pointer page.label block))
      ∙ kept accesses (memory_at_start pages) (page_space page.label) (block_pointer page.label block) away
      ∙ (memory_of_pages pages labels).at_start page block h below) in
      (ap (λ (x : List ℕ × ℕ). x.0) e, ap (λ (x : List ℕ × ℕ). x.1) e);
}
