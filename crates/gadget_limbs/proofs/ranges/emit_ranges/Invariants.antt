use Rattle.std.proofs.Common.{take}
use Rattle.air_core.specs.Ring.{field}
use Rattle.air_core.specs.Sheet.{counted}
use Rattle.air_core.specs.Sink.{Handed}
use Rattle.gadget_limbs.specs.Ranges.{range_lines}
use Rattle.gadget_limbs.proofs.ranges.emit_ranges.Given as goal

-- the lookups so far were handed over
abbrev pub invariant-loop-number : goal.invariant-loop-number
invariant-loop-number g l =
    let sink = g.S.EventSink in
    Handed sink.holds sink.room l.fn.sink l.sink (counted (range_lines field l.count l.bits (take l.number-index l.numbers)))
