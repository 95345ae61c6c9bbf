-- What is heard of the events of a segment: their balance, and how many are on the execution bus.
use Rattle.std.specs.Prelude.{◌≡◌, ℕ, Bool, nat_eq, count_by, List}
use Rattle.air_core.specs.declared.bus.TheConstants.{EXECUTION}
use Rattle.air_core.specs.declared.event.Event.{Event}
use Rattle.bus_core.specs.Sums.{Kept, Holds, room_of}

pub record Heard : Type 0 where
  pub kept : Kept
  pub path : ℕ

abbrev pub is_path : Event → Bool
is_path e = nat_eq e.bus EXECUTION

pub record Hears (heard : Heard) (events : List Event) : Type 0 where
  pub kept : Holds heard.kept events
  pub path : heard.path ≡ count_by is_path events

abbrev pub room_left : Heard → ℕ
room_left heard = room_of heard.kept
