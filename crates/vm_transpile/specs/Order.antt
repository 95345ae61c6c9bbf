-- The order of a program's rows.
use Rattle.std.specs.Prelude.{ℕ, ◌+◌, ◌^◌, ◌<◌, ◌≤◌, List, [], ◌∷◌}
use Rattle.vm_isa.specs.declared.instr.VmInstr.{VmInstr}

-- the first pc is at least this, and each later one at least 4 above the one before it; all are addresses
abbrev pub RisesFrom : ℕ → List VmInstr → Type 0
RisesFrom least [] = Unit {0}
RisesFrom least (row ∷ rows) = (least ≤ row.pc) × (row.pc < 2 ^ 32) × RisesFrom (row.pc + 4) rows
