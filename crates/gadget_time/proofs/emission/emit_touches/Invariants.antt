use Rattle.std.proofs.Common.{take}
use Rattle.air_core.specs.Sheet.{counted}
use Rattle.air_core.specs.Sink.{Handed}
use Rattle.gadget_time.specs.Told.{touches_lines}
use Rattle.gadget_time.proofs.emission.emit_touches.Given as goal
use Rattle.air_core.specs.Ring.{field}

-- the accesses so far were handed over
abbrev pub invariant-loop-touch : goal.invariant-loop-touch
invariant-loop-touch g l =
    let sink = g.S.EventSink in
    Handed sink.holds sink.room l.fn.sink l.sink (counted (touches_lines field l.hi l.time (take l.touch-index l.touches)))
