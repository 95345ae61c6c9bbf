-- What a balance keeps of the events that it was given: their sums by place, and their count.
use Rattle.std.specs.Prelude.{◌≡◌, ℕ, ◌+◌, ◌-◌, ◌*◌, ◌^◌, ◌<◌, ◌≤◌, Bool, ◌&&◌, nat_eq, List, length, None}
use Rattle.std.specs.Cmp.Lexicographic.{pointwise}
use Rattle.std.specs.Map.{lookup}
use Rattle.std.specs.Option.{option_map_or}
use Rattle.air_core.specs.declared.event.Event.{Event}
use Rattle.air_core.specs.declared.event.Side.{Side}
use Rattle.air_core.specs.declared.event.Side.TheVariants.{Send, Receive}
use Rattle.air_core.specs.Balance.{total}
use Rattle.bus_core.specs.declared.Place.{Place}
use Rattle.bus_core.specs.declared.Sums.{Sums}

-- sums by place
abbrev pub Places : Type 0
Places = List (Place (List ℕ) × Sums)

-- The sums of the places that events named, those of tuples of at most eight numbers in a list of their own,
-- and how many events there were.
pub record Kept : Type 0 where
  pub short : Places
  pub long : Places
  pub count : ℕ

abbrev pub is_place : ℕ → List ℕ → Place (List ℕ) → Bool
is_place bus tuple place = nat_eq bus place.bus && pointwise nat_eq tuple place.tuple

-- one of the two sums of a place
abbrev pub sum_on : Side → Sums → ℕ
sum_on Send sums = sums.sent
sum_on Receive sums = sums.received

-- the sums, with a count more on one side
abbrev pub add_on : Side → ℕ → Sums → Sums
add_on Send count sums = record { sent = sums.sent + count; received = sums.received }
add_on Receive count sums = record { sent = sums.sent; received = sums.received + count }

-- the sum at a side, bus and tuple: 0 where there is no such place
abbrev pub sum_in : Side → ℕ → List ℕ → Places → ℕ
sum_in side bus tuple sums = option_map_or (sum_on side) (lookup (is_place bus tuple) sums) 0

abbrev pub sum_at : Side → ℕ → List ℕ → Kept → ℕ
sum_at side bus tuple kept = sum_in side bus tuple kept.short + sum_in side bus tuple kept.long

-- its sums for each side, bus and tuple, and its count, are those of these events
pub record Holds (kept : Kept) (events : List Event) : Type 0 where
  pub sums : (side : Side) (bus : ℕ) (tuple : List ℕ) → sum_at side bus tuple kept ≡ total side bus tuple events
  pub count : kept.count ≡ length events

-- how many more events it can take, so that no sum reaches 2 ^ 128
abbrev pub room_of : Kept → ℕ
room_of kept = 2 ^ 96 - kept.count

-- No sum is above what so many counts below 2 ^ 32 come to, and each list has no place that belongs into the other.
pub record IsSound (short long : Places) (count : ℕ) : Type 0 where
  pub bounded : (side : Side) (bus : ℕ) (tuple : List ℕ) → sum_in side bus tuple short + sum_in side bus tuple long ≤ count * 2 ^ 32
  pub no_long : (bus : ℕ) (tuple : List ℕ) → 8 < length tuple → lookup (is_place bus tuple) short ≡ None
  pub no_short : (bus : ℕ) (tuple : List ℕ) → length tuple ≤ 8 → lookup (is_place bus tuple) long ≡ None
