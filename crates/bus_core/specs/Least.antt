-- The first place, of a bus and a tuple, at which events don't balance.
use Rattle.std.specs.Prelude.{◌≡◌, ◌≢◌, ℕ, Bool, true, false, nat_eq, List, [], ◌∷◌, Option, Some, None, if◌then◌else◌}
use Rattle.std.specs.Ordering.{nat_cmp, ordering_then, is_lt}
use Rattle.std.specs.declared.cmp.Ordering.{Ordering}
use Rattle.std.specs.declared.cmp.Ordering.TheVariants.{Less}
use Rattle.std.specs.Cmp.Lexicographic.{slice_cmp}
use Rattle.air_core.specs.declared.event.Event.{Event}
use Rattle.air_core.specs.declared.event.Side.TheVariants.{Send, Receive}
use Rattle.air_core.specs.Balance.{total, IsEven}
use Rattle.bus_core.specs.declared.Unbalanced.{Unbalanced}

-- places by the bus, and then by the tuple, as lists are compared
abbrev pub place_cmp : ℕ → List ℕ → ℕ → List ℕ → Ordering
place_cmp bus tuple other_bus other_tuple = ordering_then (nat_cmp bus other_bus) (slice_cmp nat_cmp tuple other_tuple)

abbrev pub IsBefore : ℕ → List ℕ → ℕ → List ℕ → Type 0
IsBefore bus tuple other_bus other_tuple = place_cmp bus tuple other_bus other_tuple ≡ Less

-- what was sent and received there isn't the same
pub record IsUnbalanced (events : List Event) (found : Unbalanced) : Type 0 where
  pub sent : found.sent ≡ total Send found.bus found.tuple events
  pub received : found.received ≡ total Receive found.bus found.tuple events
  pub differ : found.sent ≢ found.received

-- and at each place before it, it is
pub record IsLeastUnbalanced (events : List Event) (found : Unbalanced) : Type 0 where
  pub unbalanced : IsUnbalanced events found
  pub least : (bus : ℕ) (tuple : List ℕ) → IsBefore bus tuple found.bus found.tuple → IsEven bus tuple events

-- of two such places the one that stands first, and the second where there is no first
abbrev pub lesser_of : Option Unbalanced → Unbalanced → Unbalanced
lesser_of None b = b
lesser_of (Some a) b = if is_lt (place_cmp b.bus b.tuple a.bus a.tuple) then b else a

-- ---- the same as a function of the events

abbrev pub unbalanced_at : ℕ → List ℕ → ℕ → ℕ → Unbalanced
unbalanced_at bus tuple sent received = record { bus = bus; tuple = tuple; sent = sent; received = received }

abbrev pub uneven_by : Bool → ℕ → List ℕ → ℕ → ℕ → Option Unbalanced
uneven_by true bus tuple sent received = None
uneven_by false bus tuple sent received = Some (unbalanced_at bus tuple sent received)

-- the place, where its sums differ
abbrev pub uneven_at : List Event → ℕ → List ℕ → Option Unbalanced
uneven_at events bus tuple = uneven_by (nat_eq (total Send bus tuple events) (total Receive bus tuple events)) bus tuple (total Send bus tuple events) (total Receive bus tuple events)

abbrev pub lesser_found : Option Unbalanced → Option Unbalanced → Option Unbalanced
lesser_found old None = old
lesser_found old (Some b) = Some (lesser_of old b)

-- the least of the places that some events name
abbrev pub least_among : List Event → List Event → Option Unbalanced
least_among events [] = None
least_among events (e ∷ es) = lesser_found (least_among events es) (uneven_at events e.bus e.tuple)

-- the first bus and tuple whose sums differ
unfoldable pub least_uneven : List Event → Option Unbalanced
least_uneven events = least_among events events
