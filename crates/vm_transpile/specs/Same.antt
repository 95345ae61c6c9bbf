-- When the manual's machine and the machine on blocks are in the same state.
use Rattle.std.specs.Prelude.{◌≡◌, ℕ, ◌+◌, ◌*◌, ◌%◌, ◌^◌, ◌<◌, List, [], ◌∷◌, length, take, drop}
use Rattle.vm_word.specs.Word.{limbs_of}
use Rattle.rv_run.specs.Machine.{Machine}
use Rattle.rv_run.specs.Step.{register}
use Rattle.vm_isa.specs.Words.{IsBytes}
use Rattle.vm_isa.specs.Spaces.{REGISTERS, MEMORY, PUBLIC}
use Rattle.vm_isa.specs.Blocks.{VmState}

-- what a state of the manual's machine always is
pub record IsMachine (m : Machine) : Type 0 where
  pub pc : m.pc < 2 ^ 32
  pub count : length m.registers ≡ 32
  pub words : (r : ℕ) → register m r < 2 ^ 32
  pub x0 : register m 0 ≡ 0
  pub bytes : (address : ℕ) → m.memory address < 256
  pub public_count : length m.public_bytes ≡ 64
  pub public_bytes : IsBytes m.public_bytes
  pub hints : IsBytes m.hints

-- four bytes of memory
abbrev pub memory_block : (ℕ → ℕ) → ℕ → List ℕ
memory_block memory q = memory q ∷ memory (q + 1) ∷ memory (q + 2) ∷ memory (q + 3) ∷ []

-- Register r is the block at 4 * r, the bytes from q on are the block at q for each q that is a
-- multiple of 4, and the public bytes from 4 * j on are the block at 4 * j, each in its space.
pub record Same (m : Machine) (s : VmState) : Type 0 where
  pub pc : s.pc ≡ m.pc
  pub registers : (r : ℕ) → r < 32 → s.blocks REGISTERS (4 * r) ≡ limbs_of (register m r)
  pub memory : (q : ℕ) → q % 4 ≡ 0 → q < 2 ^ 29 → s.blocks MEMORY q ≡ memory_block m.memory q
  pub public_bytes : (j : ℕ) → j < 16 → s.blocks PUBLIC (4 * j) ≡ take 4 (drop (4 * j) m.public_bytes)
  pub hints : s.hints ≡ m.hints
