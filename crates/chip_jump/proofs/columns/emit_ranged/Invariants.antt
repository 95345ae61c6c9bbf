use Rattle.std.proofs.Common.{take}
use Rattle.air_core.specs.Ring.{field}
use Rattle.air_core.specs.Sheet.{counted}
use Rattle.air_core.specs.Sink.{Handed}
use Rattle.chip_jump.specs.Link.{ranged_lines}
use Rattle.chip_jump.proofs.columns.emit_ranged.Given as goal

-- the lookups so far were handed over
abbrev pub invariant-loop-r : goal.invariant-loop-r
invariant-loop-r g l =
    let sink = g.S.EventSink in
    Handed sink.holds sink.room l.fn.sink l.sink (counted (ranged_lines field l.count (take l.r-index l.numbers)))
