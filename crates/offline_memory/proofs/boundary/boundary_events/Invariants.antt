use Rattle.std.proofs.Common.{map}
use Rattle.std.specs.Prelude.{flat_map}
use Rattle.std.specs.List.{range_with_len}
use Rattle.air_core.specs.Sink.{Handed}
use Rattle.offline_memory.specs.Pages.{block_of}
use Rattle.offline_memory.specs.MemoryEvents.{block_events}
use Rattle.offline_memory.proofs.boundary.boundary_events.Given as goal

-- the events of the blocks so far were handed over
abbrev pub invariant-loop-block : goal.invariant-loop-block
invariant-loop-block g l =
    let sink = g.S.EventSink in
    Handed sink.holds sink.room l.fn.sink l.sink (flat_map block_events (map (block_of l.page) (range_with_len 0 l.block)))
