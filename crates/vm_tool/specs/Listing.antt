-- The lines of a program's rows.
use Rattle.std.specs.Prelude.{ℕ, List, ◌++◌, drop, flat_map, codes}
use Rattle.std.specs.Fmt.{decimal}
use Rattle.std.specs.Int.{w32, to_be_bytes}
use Rattle.hex.specs.Hex.{encode_lower}
use Rattle.vm_isa.specs.declared.instr.VmInstr.{VmInstr}
use Rattle.vm_isa.specs.Instr.{numbers_of}

abbrev pub spaced : ℕ → List ℕ
spaced number = codes " " ++ decimal number

-- the pc as 8 digits, then the other eleven numbers
abbrev pub line_of_row : VmInstr → List ℕ
line_of_row row = encode_lower (to_be_bytes w32 row.pc) ++ flat_map spaced (drop 1 (numbers_of row)) ++ codes "\n"

abbrev pub listing_of : List VmInstr → List ℕ
listing_of rows = flat_map line_of_row rows
