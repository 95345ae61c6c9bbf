-- What is sent and what is received on the buses, and when the two balance.
use Rattle.std.specs.Prelude.{◌≡◌, ℕ, Bool, true, false, ◌&&◌, nat_eq, if◌then◌else◌, sum_by, List}
use Rattle.std.specs.Cmp.Lexicographic.{pointwise}
use Rattle.air_core.specs.declared.event.Event.{Event}
use Rattle.air_core.specs.declared.event.Side.{Side}
use Rattle.air_core.specs.declared.event.Side.TheVariants.{Send, Receive}

abbrev pub same_side : Side → Side → Bool
same_side Send Send = true
same_side Receive Receive = true
same_side Send Receive = false
same_side Receive Send = false

-- whether an event is on this side of this bus with this tuple
abbrev pub is_at : Side → ℕ → List ℕ → Event → Bool
is_at side bus tuple e = nat_eq e.bus bus && (same_side e.side side && pointwise nat_eq e.tuple tuple)

-- what an event adds there: its count, and nothing where it is elsewhere
abbrev pub amount_at : Side → ℕ → List ℕ → Event → ℕ
amount_at side bus tuple e = if is_at side bus tuple e then e.count else 0

-- the sum of the counts there, as a whole number
abbrev pub total : Side → ℕ → List ℕ → List Event → ℕ
total side bus tuple events = sum_by (amount_at side bus tuple) events

-- this tuple is sent on this bus as often as it is received
abbrev pub IsEven : ℕ → List ℕ → List Event → Type 0
IsEven bus tuple events = total Send bus tuple events ≡ total Receive bus tuple events

-- on the buses that a test picks, each tuple is sent as often as it is received
pub record BalancedOn (on : ℕ → Bool) (events : List Event) : Type 0 where
  pub even : (bus : ℕ) (tuple : List ℕ) → on bus ≡ true → IsEven bus tuple events

-- on every bus each tuple is sent as often as it is received
pub record Balanced (events : List Event) : Type 0 where
  pub even : (bus : ℕ) (tuple : List ℕ) → IsEven bus tuple events
