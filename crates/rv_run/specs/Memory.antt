-- Memory as the byte at each address. A number of several bytes has its lowest byte first (RISC-V
-- Unprivileged ISA 20191213, section 1.4).
use Rattle.byteorder.specs.Endian.{little_bytes}
use Rattle.elf_image.specs.Copies.{given_or}
use Rattle.std.specs.Prelude.{ℕ, zero, suc, ◌+◌, ◌*◌, List, [], ◌∷◌}

-- the number in this many bytes from an address on
abbrev pub number_at : (ℕ → ℕ) → ℕ → ℕ → ℕ
number_at memory address zero = 0
number_at memory address (suc count) = memory address + 256 * number_at memory (address + 1) count

-- the four bytes from an address on
abbrev pub four_at : (ℕ → ℕ) → ℕ → List ℕ
four_at memory address = memory address ∷ memory (address + 1) ∷ memory (address + 2) ∷ memory (address + 3) ∷ []

-- bytes stand from an address on, and the others stay
abbrev pub with_bytes : (ℕ → ℕ) → ℕ → List ℕ → ℕ → ℕ
with_bytes memory address bytes a = given_or address bytes a (memory a)

-- words stand from an address on, the lowest byte of each first
abbrev pub with_words : (ℕ → ℕ) → ℕ → List ℕ → ℕ → ℕ
with_words memory address [] = memory
with_words memory address (word ∷ words) = with_words (with_bytes memory address (little_bytes 4 word)) (address + 4) words
