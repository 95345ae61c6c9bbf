-- The spaces of the machine's memory, with the numbers of src/space.rt.
use Rattle.std.specs.Prelude.{ℕ}

-- register r is the block at 4 * r
abbrev pub REGISTERS : ℕ
REGISTERS = 1

abbrev pub MEMORY : ℕ
MEMORY = 2

abbrev pub PUBLIC : ℕ
PUBLIC = 3
