-- The next pc of a row that may jump.
use Rattle.air_core.specs.Ring.{Ring}

-- pc + 4 + taken * (target - pc - 4)
unfoldable pub next_by : {A E : Type 0} → Ring A E → A → A → A → A
next_by o pc target taken = o.plus (o.plus pc (o.number 4)) (o.times taken (o.minus (o.minus target pc) (o.number 4)))
