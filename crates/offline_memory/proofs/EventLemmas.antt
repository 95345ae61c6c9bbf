-- From events of the memory bus to counts of cells.
use Rattle.std.proofs.Common.{◌≡◌, ℕ, ◌+◌, nat_eq, List, [], ◌∷◌, ◌++◌, map, refl, sym, ap, ◌∙◌, arith}
use Rattle.std.specs.Prelude.{flat_map}
use Rattle.std.proofs.lemmas.List.Concat.{flat_map-append}
use Rattle.air_core.specs.declared.event.Event.{Event}
use Rattle.air_core.specs.declared.event.Side.TheVariants.{Send, Receive}
use Rattle.air_core.specs.Balance.{total, BalancedOn}
use Rattle.air_core.proofs.BalanceLemmas.{total-append}
use Rattle.air_core.specs.Totals.{SameTotals, is_bus}
use Rattle.std.specs.Cmp.Lexicographic.{pointwise}
use Rattle.air_core.specs.Counts.{once, weight}
use Rattle.air_core.proofs.Counting.{weight-map}
use Rattle.air_core.proofs.Totals.{balanced_same, total_each, total_send-exchange, total_receive-exchange, total_send-given_first, total_receive-given_first}
use Rattle.vm_trace.specs.declared.page.Touched.{Touched}
use Rattle.offline_memory.specs.Memory.{Cell, cell_tuple, Access, met_cell, left_cell, Block, first_cell, last_cell, MemoryBalanced}
use Rattle.offline_memory.specs.Pages.{page_blocks, blocks_of}
use Rattle.offline_memory.specs.MemoryEvents.{access_events, block_events, boundary_events, memory_events}

-- the boundary events, page by page and block by block
pub events_of_blocks : (pages : List Touched) → flat_map boundary_events pages ≡ flat_map block_events (blocks_of pages)
events_of_blocks [] = refl
events_of_blocks (page ∷ pages) =
    ap (λ (t : List Event). boundary_events page ++ t) (events_of_blocks pages)
    ∙ sym (flat_map-append block_events (page_blocks page) (blocks_of pages))

-- a cell's tuple is this one
abbrev pub cell_is : List ℕ → Cell → ℕ
cell_is tuple c = once (pointwise nat_eq (cell_tuple c) tuple)

pub blocks_send : (tuple : List ℕ) (blocks : List Block) → total Send 2 tuple (flat_map block_events blocks) ≡ weight (cell_is tuple) (map first_cell blocks)
blocks_send tuple blocks =
    total_each Send 2 tuple block_events (λ b. cell_is tuple (first_cell b)) (λ b. total_send-given_first 2 tuple (cell_tuple (last_cell b)) (cell_tuple (first_cell b))) blocks
    ∙ sym (weight-map (cell_is tuple) first_cell blocks)

pub blocks_receive : (tuple : List ℕ) (blocks : List Block) → total Receive 2 tuple (flat_map block_events blocks) ≡ weight (cell_is tuple) (map last_cell blocks)
blocks_receive tuple blocks =
    total_each Receive 2 tuple block_events (λ b. cell_is tuple (last_cell b)) (λ b. total_receive-given_first 2 tuple (cell_tuple (last_cell b)) (cell_tuple (first_cell b))) blocks
    ∙ sym (weight-map (cell_is tuple) last_cell blocks)

pub accesses_send : (tuple : List ℕ) (accesses : List Access) → total Send 2 tuple (flat_map access_events accesses) ≡ weight (cell_is tuple) (map left_cell accesses)
accesses_send tuple accesses =
    total_each Send 2 tuple access_events (λ a. cell_is tuple (left_cell a)) (λ a. total_send-exchange 2 tuple (cell_tuple (met_cell a)) (cell_tuple (left_cell a))) accesses
    ∙ sym (weight-map (cell_is tuple) left_cell accesses)

pub accesses_receive : (tuple : List ℕ) (accesses : List Access) → total Receive 2 tuple (flat_map access_events accesses) ≡ weight (cell_is tuple) (map met_cell accesses)
accesses_receive tuple accesses =
    total_each Receive 2 tuple access_events (λ a. cell_is tuple (met_cell a)) (λ a. total_receive-exchange 2 tuple (cell_tuple (met_cell a)) (cell_tuple (left_cell a))) accesses
    ∙ sym (weight-map (cell_is tuple) met_cell accesses)

-- what is said on the memory bus of a tuple
pub memory_sent : (tuple : List ℕ) (pages : List Touched) (accesses : List Access)
    → total Send 2 tuple (memory_events pages accesses) ≡ weight (cell_is tuple) (map first_cell (blocks_of pages)) + weight (cell_is tuple) (map left_cell accesses)
memory_sent tuple pages accesses =
    omega (
      arith,
      total-append Send 2 tuple (flat_map boundary_events pages) (flat_map access_events accesses),
      ap (total Send 2 tuple) (events_of_blocks pages),
      blocks_send tuple (blocks_of pages),
      accesses_send tuple accesses,
    )

pub memory_received : (tuple : List ℕ) (pages : List Touched) (accesses : List Access)
    → total Receive 2 tuple (memory_events pages accesses) ≡ weight (cell_is tuple) (map last_cell (blocks_of pages)) + weight (cell_is tuple) (map met_cell accesses)
memory_received tuple pages accesses =
    omega (
      arith,
      total-append Receive 2 tuple (flat_map boundary_events pages) (flat_map access_events accesses),
      ap (total Receive 2 tuple) (events_of_blocks pages),
      blocks_receive tuple (blocks_of pages),
      accesses_receive tuple accesses,
    )

pub accesses_balance : (pages : List Touched) (accesses : List Access) (events : List Event) → BalancedOn (is_bus 2) events → SameTotals 2 events (memory_events pages accesses) → MemoryBalanced (blocks_of pages) accesses
accesses_balance pages accesses events balanced same = record {
  counts = λ c.
      omega (
        arith,
        balanced_same 2 events (memory_events pages accesses) balanced same (cell_tuple c),
        memory_sent (cell_tuple c) pages accesses,
        memory_received (cell_tuple c) pages accesses,
      );
}
