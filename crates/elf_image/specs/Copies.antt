-- Bytes that stand over others.
use Rattle.std.specs.Prelude.{ℕ, ◌+◌, ◌-◌, ◌&&◌, List, length, slice_index, nat_le, nat_lt, if◌then◌else◌}

-- a byte that stands from an address on, or another
abbrev pub given_or : ℕ → List ℕ → ℕ → ℕ → ℕ
given_or from bytes address other =
    if nat_le from address && nat_lt address (from + length bytes) then slice_index bytes (address - from) else other
