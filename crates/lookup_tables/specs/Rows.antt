-- The rows of the lookup tables as functions of their places.
use Rattle.std.specs.Prelude.{ℕ, zero, suc, ◌+◌, ◌-◌, ◌/◌, ◌%◌, ◌^◌, nat_eq, nat_le, nat_lt, if◌then◌else◌, List, [], ◌∷◌, Option, Some, None, bit_xor}
use Rattle.sha_words.specs.Sha256.{round_constant}
use Rattle.lookup_tables.specs.Places.{rows_of}
use Rattle.air_core.specs.declared.bus.TheConstants.{XOR, RANGE}

-- the greatest exponent up to this one whose power of two is at most the number, and 0 where there is none
abbrev pub exponent_up_to : ℕ → ℕ → ℕ
exponent_up_to zero number = 0
exponent_up_to (suc n) number = if nat_le (2 ^ suc n) number then suc n else exponent_up_to n number

-- two bytes, and their xor
abbrev pub xor_row_of : ℕ → List ℕ
xor_row_of place = (place / 256) ∷ (place % 256) ∷ bit_xor (place / 256) (place % 256) ∷ []

-- a number below a power of two, and the exponent
abbrev pub range_row_of : ℕ → List ℕ
range_row_of place = (place + 1 - 2 ^ exponent_up_to 16 (place + 1)) ∷ exponent_up_to 16 (place + 1) ∷ []

-- a round, and the two halves of its constant
abbrev pub constant_row_of : ℕ → List ℕ
constant_row_of place = place ∷ (round_constant place % 65536) ∷ (round_constant place / 65536) ∷ []

abbrev pub row_below : ℕ → ℕ → List ℕ
row_below bus place = if nat_eq bus XOR then xor_row_of place else if nat_eq bus RANGE then range_row_of place else constant_row_of place

-- the row at a place of the table of a bus, where there is one
unfoldable pub row_at : ℕ → ℕ → Option (List ℕ)
row_at bus place = if nat_lt place (rows_of bus) then Some (row_below bus place) else None
