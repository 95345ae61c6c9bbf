-- The laws of one sequential memory. Each is the contract of a function in src/laws.rt.
use Rattle.std.specs.Prelude.{◌<◌, List, flat_map, map}
use Rattle.std.specs.List.{AllByRecursion}
use Rattle.air_core.specs.declared.event.Event.{Event}
use Rattle.air_core.specs.Balance.{BalancedOn}
use Rattle.air_core.specs.Orders.{Distinct}
use Rattle.air_core.specs.Totals.{SameTotals, is_bus}
use Rattle.vm_trace.specs.declared.page.Touched.{Touched}
use Rattle.offline_memory.specs.Memory.{Access, MemoryBalanced, InTime}
use Rattle.offline_memory.specs.Bytes.{KeepBytes, HasBytes}
use Rattle.offline_memory.specs.Pages.{blocks_of, DistinctLabels, PagesOfBytes, SequentialMemory, OrderedMemory, IsOldTime, MemoryOfPages, UntouchedStays}
use Rattle.offline_memory.specs.MemoryEvents.{memory_events}
use Rattle.offline_memory.specs.Linked.{unmet, Linked, PagesFit}

-- Accesses in the order of time, with each old time before its own, that balance with pages of different
-- labels are one sequential memory. No bound on times is needed.
abbrev pub BalancedAccessesAreOneMemory : Type 0
BalancedAccessesAreOneMemory = (pages : List Touched) (accesses : List Access) → DistinctLabels pages → InTime accesses
    → MemoryBalanced (blocks_of pages) accesses → SequentialMemory pages accesses

-- The same of accesses listed in any order, whose times differ.
abbrev pub DistinctTimesAreOneMemory : Type 0
DistinctTimesAreOneMemory = (pages : List Touched) (accesses : List Access) → DistinctLabels pages
    → Distinct (map (λ (a : Access). a.time) accesses) → AllByRecursion (λ a. a.before < a.time) accesses
    → MemoryBalanced (blocks_of pages) accesses → OrderedMemory pages accesses

-- All words of such a memory are bytes, where the pages' old bytes are and each row keeps bytes.
abbrev pub BalancedAccessesHaveBytes : Type 0
BalancedAccessesHaveBytes = (pages : List Touched) (rows : List (List Access)) → DistinctLabels pages → PagesOfBytes pages
    → InTime (flat_map (λ row. row) rows) → MemoryBalanced (blocks_of pages) (flat_map (λ row. row) rows)
    → AllByRecursion KeepBytes rows → AllByRecursion HasBytes (flat_map (λ row. row) rows)

-- Each old time is 0 or the time of an access. This needs no order of times.
abbrev pub OldTimesAreAccessTimes : Type 0
OldTimesAreAccessTimes = (pages : List Touched) (accesses : List Access) → MemoryBalanced (blocks_of pages) accesses
    → AllByRecursion (λ a. IsOldTime accesses a.before) accesses

-- At each block of each page the memory at the start has the old word at time 0, and the one at the end
-- the new word at the block's final time.
abbrev pub PagesAreMemories : Type 0
PagesAreMemories = (pages : List Touched) → DistinctLabels pages → MemoryOfPages pages

-- a block without accesses keeps its word, and its final time is 0
abbrev pub UntouchedBlocksStay : Type 0
UntouchedBlocksStay = (pages : List Touched) (accesses : List Access) → DistinctLabels pages → SequentialMemory pages accesses
    → UntouchedStays pages accesses

-- where the memory bus balances, and its sums are those of the pages and the accesses, the accesses balance
abbrev pub BalancedEventsBalanceAccesses : Type 0
BalancedEventsBalanceAccesses = (pages : List Touched) (accesses : List Access) (events : List Event) → BalancedOn (is_bus 2) events
    → SameTotals 2 events (memory_events pages accesses) → MemoryBalanced (blocks_of pages) accesses

-- Back: accesses that are linked, each to the last one of its place, balance with pages that fit them.
abbrev pub LinkedAccessesBalance : Type 0
LinkedAccessesBalance = (pages : List Touched) (accesses : List Access) → Linked unmet accesses → PagesFit pages accesses
    → BalancedOn (is_bus 2) (memory_events pages accesses)
