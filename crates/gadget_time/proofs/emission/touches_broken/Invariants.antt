use Rattle.std.proofs.Common.{◌≡◌, ◌+◌, drop, map}
use Rattle.air_core.specs.First.{first_from}
use Rattle.gadget_time.specs.Told.{touch_constraint}
use Rattle.gadget_time.proofs.emission.touches_broken.Given as goal
use Rattle.air_core.specs.Ring.{field}

abbrev pub invariant-loop-touch : goal.invariant-loop-touch
invariant-loop-touch l =
    (l.place ≡ l.from + l.touch-index) × (first_from l.from (map (touch_constraint field l.time) l.touches) ≡ first_from l.place (map (touch_constraint field l.time) (drop l.touch-index l.touches)))
