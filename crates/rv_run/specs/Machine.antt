-- The state of the machine (RISC-V Unprivileged ISA 20191213, section 2.1), with the public bytes and
-- the hints that this project's environment adds.
use Rattle.std.specs.Prelude.{ℕ, List, replicate}
use Rattle.elf_image.specs.Loaded.{Loaded, byte_of}

pub record Machine : Type 0 where
  pub pc : ℕ
  -- the words in x0 to x31
  pub registers : List ℕ
  -- the byte at each address below 2 ^ 29
  pub memory : ℕ → ℕ
  -- the 64 bytes that a run makes public
  pub public_bytes : List ℕ
  -- the hint bytes that are left
  pub hints : List ℕ

-- before the first step
abbrev pub start : Loaded → List ℕ → Machine
start loaded hints = record {
  pc = loaded.entry;
  registers = replicate 32 0;
  memory = byte_of loaded;
  public_bytes = replicate 64 0;
  hints = hints;
}
