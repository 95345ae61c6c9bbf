-- Extensions made of others, and those of no table or one.
use Rattle.std.specs.Prelude.{ℕ, true, false, ◌||◌, if◌then◌else◌, [], ◌∷◌, ◌++◌, replicate}
use Rattle.air_core.specs.Sheet.{Sheet}
use Rattle.air_core.specs.System.{System}

-- the first's tables, and then the second's
abbrev pub join : System → System → System
join x y = record { parts = x.parts ++ y.parts; private = λ bus. x.private bus || y.private bus; time_bits = x.time_bits }

-- no table
abbrev pub no_chips : ℕ → System
no_chips bits = record { parts = []; private = λ _. false; time_bits = bits }

-- a table of its own, whose row a record of an opcode that it owns fills
abbrev pub single : Sheet → System
single sheet = record {
  parts = record { sheet = sheet; rows_for = λ done. if sheet.owns done.instr.op then 1 else 0 } ∷ [];
  private = λ _. false;
  time_bits = sheet.time_bits;
}

-- a table that owns no opcode and says nothing: each value of a row must be 0
abbrev pub reserved_sheet : ℕ → ℕ → ℕ → Sheet
reserved_sheet width slots bits = record {
  width = width;
  slots = slots;
  rows = 0;
  time_bits = bits;
  first_flag = 0;
  flags = 0;
  owns = λ _. false;
  takes = λ _. false;
  alone = true;
  constraints = λ row. row;
  lines = λ row. [];
  filled = λ done place. replicate width 0;
}

abbrev pub reserved : ℕ → ℕ → ℕ → System
reserved width slots bits = record {
  parts = record { sheet = reserved_sheet width slots bits; rows_for = λ done. 0 } ∷ [];
  private = λ _. false;
  time_bits = bits;
}
