-- The counts of the lookup tables' rows, as events come.
use Rattle.std.specs.Prelude.{◌≡◌, ℕ, ◌+◌, ◌-◌, ◌^◌, nat_eq, if◌then◌else◌, List, length, set, slice_index, min}
use Rattle.air_core.specs.declared.bus.TheConstants.{XOR, RANGE, SHA_CONSTANTS}
use Rattle.air_core.specs.declared.event.Event.{Event}
use Rattle.air_core.specs.declared.event.Side.TheVariants.{Send}
use Rattle.air_core.specs.Balance.{total}
use Rattle.lookup_tables.specs.Places.{IsRowAt, rows_of}

pub record LookupCounts : Type 0 where
  pub xor : List ℕ
  pub range : List ℕ
  pub constants : List ℕ
  -- how many events were taken
  pub taken : ℕ

-- a count for each row
pub record AreSized (c : LookupCounts) : Type 0 where
  pub xor : length c.xor ≡ rows_of XOR
  pub range : length c.range ≡ rows_of RANGE
  pub constants : length c.constants ≡ rows_of SHA_CONSTANTS

-- the greatest count
abbrev pub most : ℕ
most = 2 ^ 32 - 1

-- with a use more at a place
abbrev pub used_at : List ℕ → ℕ → ℕ → List ℕ
used_at counts place count = set counts place (min (slice_index counts place + count) most)

-- of the table of a bus
abbrev pub used_on : LookupCounts → ℕ → ℕ → ℕ → LookupCounts
used_on c bus place count =
    if nat_eq bus XOR then record { xor = used_at c.xor place count; range = c.range; constants = c.constants; taken = c.taken }
    else if nat_eq bus RANGE then record { xor = c.xor; range = used_at c.range place count; constants = c.constants; taken = c.taken }
    else record { xor = c.xor; range = c.range; constants = used_at c.constants place count; taken = c.taken }

-- At the place of each row stands how often the events send it, or the greatest count if that is more.
pub record CountsSent (bus : ℕ) (events : List Event) (counts : List ℕ) : Type 0 where
  pub at : (place : ℕ) (tuple : List ℕ) → IsRowAt bus place tuple → slice_index counts place ≡ min (total Send bus tuple events) most

pub record CountLookups (c : LookupCounts) (events : List Event) : Type 0 where
  pub xor : CountsSent XOR events c.xor
  pub range : CountsSent RANGE events c.range
  pub constants : CountsSent SHA_CONSTANTS events c.constants

-- so many events can still be taken
abbrev pub events_left : LookupCounts → ℕ
events_left c = 2 ^ 63 - c.taken
