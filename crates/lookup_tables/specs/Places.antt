-- Where a row of a lookup table stands: each row has one place, and each place below the table's
-- number of rows has one row.
use Rattle.std.specs.Prelude.{◌≡◌, ℕ, ◌+◌, ◌*◌, ◌-◌, ◌^◌, ◌≤◌, nat_eq, if◌then◌else◌, List}
use Rattle.air_core.specs.Lookups.{IsXorRow, IsRangeRow, IsConstantRow}
use Rattle.air_core.specs.declared.bus.TheConstants.{XOR, RANGE, SHA_CONSTANTS}

-- the row (x, y, x xor y) at place 256x + y
pub record XorAt (place : ℕ) (tuple : List ℕ) : Type 0 where
  pub row : IsXorRow tuple
  pub at : place ≡ 256 * row.x + row.y

-- the row (v, n) at place 2^n - 1 + v
pub record RangeAt (place : ℕ) (tuple : List ℕ) : Type 0 where
  pub row : IsRangeRow tuple
  pub at : place ≡ 2 ^ row.n - 1 + row.v

-- the row of a round at the place of its number
pub record ConstantAt (place : ℕ) (tuple : List ℕ) : Type 0 where
  pub row : IsConstantRow tuple
  pub at : place ≡ row.round

-- the row at a place of the table of a bus
pub record IsRowAt (bus place : ℕ) (tuple : List ℕ) : Type 0 where
  pub low : XOR ≤ bus
  pub high : bus ≤ SHA_CONSTANTS
  pub xor : bus ≡ XOR → XorAt place tuple
  pub range : bus ≡ RANGE → RangeAt place tuple
  pub constant : bus ≡ SHA_CONSTANTS → ConstantAt place tuple

-- a row of the table of a bus
pub record IsRowOf (bus : ℕ) (tuple : List ℕ) : Type 0 where
  pub low : XOR ≤ bus
  pub high : bus ≤ SHA_CONSTANTS
  pub xor : bus ≡ XOR → IsXorRow tuple
  pub range : bus ≡ RANGE → IsRangeRow tuple
  pub constant : bus ≡ SHA_CONSTANTS → IsConstantRow tuple

-- how many rows the table of a bus has
abbrev pub rows_of : ℕ → ℕ
rows_of bus = if nat_eq bus XOR then 65536 else if nat_eq bus RANGE then 131071 else if nat_eq bus SHA_CONSTANTS then 64 else 0
