-- Lists of events that have the same sums on one bus.
use Rattle.std.specs.Prelude.{◌≡◌, ℕ, Bool, nat_eq, List}
use Rattle.air_core.specs.declared.event.Event.{Event}
use Rattle.air_core.specs.declared.event.Side.{Side}
use Rattle.air_core.specs.Balance.{total}

-- the test for one bus
abbrev pub is_bus : ℕ → ℕ → Bool
is_bus bus other = nat_eq other bus

-- on a bus the two lists have the same sum for each side and tuple
pub record SameTotals (bus : ℕ) (xs ys : List Event) : Type 0 where
  pub sums : (side : Side) (tuple : List ℕ) → total side bus tuple xs ≡ total side bus tuple ys
