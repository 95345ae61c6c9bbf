-- What follows from the definitions. Each law is the contract of a function in src/laws.rt.
use Rattle.std.specs.Prelude.{◌≡◌, ℕ, ◌^◌, ◌<◌, List, Some, All, Contains}
use Rattle.elf_image.specs.Loaded.{Loaded, word_of}
use Rattle.elf_image.specs.Image.{HasImage}
use Rattle.vm_isa.specs.declared.instr.VmInstr.{VmInstr}
use Rattle.vm_isa.specs.Instr.{InRange}
use Rattle.vm_transpile.specs.Order.{RisesFrom}
use Rattle.vm_transpile.specs.Program.{row_at, program_of}

-- the rows stand in rising order of pc
abbrev pub RowsRise : Type 0
RowsRise = (loaded : Loaded) → RisesFrom 0 (program_of loaded)

-- a row of the program is that of the text word at its pc
abbrev pub RowsAreOfTheText : Type 0
RowsAreOfTheText = (loaded : Loaded) (row : VmInstr) → Contains (program_of loaded) row
    → (word : ℕ) × (word_of loaded row.pc ≡ Some word) × (row_at (record { pc = row.pc; word = word }) ≡ Some row)

-- and each text word that has a row has it in the program
abbrev pub TheTextHasItsRows : Type 0
TheTextHasItsRows = (loaded : Loaded) (pc word : ℕ) (row : VmInstr) → pc < 2 ^ 32 → word_of loaded pc ≡ Some word
    → row_at (record { pc = pc; word = word }) ≡ Some row → Contains (program_of loaded) row

-- a file has one program
abbrev pub ProgramIsOne : Type 0
ProgramIsOne = (bytes : List ℕ) (a b : Loaded) → HasImage bytes a → HasImage bytes b → program_of a ≡ program_of b

-- every row of a file's program is in range
abbrev pub RowsAreInRange : Type 0
RowsAreInRange = (bytes : List ℕ) (loaded : Loaded) → HasImage bytes loaded → All InRange (program_of loaded)
