-- The lookup tables, and the events of a row whose lookups stand in them.
use Rattle.std.specs.Prelude.{◌≡◌, ℕ, ◌/◌, ◌%◌, ◌^◌, ◌<◌, ◌≤◌, List, [], ◌∷◌, bit_xor}
use Rattle.sha_words.specs.Sha256.{round_constant}
use Rattle.std.specs.List.{AllByRecursion}
use Rattle.vm_isa.specs.Instr.{IsInstruction}
use Rattle.air_core.specs.declared.event.Event.{Event}
use Rattle.air_core.specs.declared.bus.TheConstants.{PROGRAM, XOR, RANGE, SHA_CONSTANTS}

-- a row of the xor table: two bytes and their xor
pub record IsXorRow (tuple : List ℕ) : Type 0 where
  pub x : ℕ
  pub y : ℕ
  pub x_byte : x < 256
  pub y_byte : y < 256
  pub is : tuple ≡ x ∷ y ∷ bit_xor x y ∷ []

-- a row of the range table: a number below a power of two, and the exponent
pub record IsRangeRow (tuple : List ℕ) : Type 0 where
  pub v : ℕ
  pub n : ℕ
  pub width : n ≤ 16
  pub below : v < 2 ^ n
  pub is : tuple ≡ v ∷ n ∷ []

-- a row of the constants' table: a round of SHA-256, and the low and the high half of its constant
pub record IsConstantRow (tuple : List ℕ) : Type 0 where
  pub round : ℕ
  pub below : round < 64
  pub is : tuple ≡ round ∷ round_constant round % 65536 ∷ round_constant round / 65536 ∷ []

-- an event that is a lookup stands in its table, and a program tuple is an instruction's
pub record GoodEvent (e : Event) : Type 0 where
  pub program : e.bus ≡ PROGRAM → IsInstruction e.tuple
  pub xor : e.bus ≡ XOR → IsXorRow e.tuple
  pub range : e.bus ≡ RANGE → IsRangeRow e.tuple
  pub constant : e.bus ≡ SHA_CONSTANTS → IsConstantRow e.tuple

abbrev pub Good : List Event → Type 0
Good events = AllByRecursion GoodEvent events
