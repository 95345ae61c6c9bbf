-- Lines of a listing of instruction words, by their format (RISC-V Unprivileged ISA 20191213, section 2.2).
use Rattle.std.specs.Prelude.{ℕ, List, [], ◌∷◌, ◌++◌, Bool, true, ◌&&◌, ◌==◌}
use Rattle.rv_decode.specs.declared.instr.Instr.{Instr}
use Rattle.rv_decode.specs.Bits.{bits, rd_of, rs1_of, rs2_of, i_immediate, s_immediate, b_immediate, u_immediate, j_immediate}

-- bits high to low are fixed at this value
pub record Fixed : Type 0 where
  pub high : ℕ
  pub low : ℕ
  pub value : ℕ

-- a line of a listing: the bits that are fixed, and the instruction that the other bits make
pub record Line : Type 0 where
  pub fixed : List Fixed
  pub instr : ℕ → Instr

-- all these bits are as they are fixed
abbrev pub fits : List Fixed → ℕ → Bool
fits [] word = true
fits (f ∷ rest) word = (bits f.high f.low word == f.value) && fits rest word

abbrev pub bits_are : ℕ → ℕ → ℕ → Fixed
bits_are high low value = record { high = high; low = low; value = value }

abbrev pub opcode_is : ℕ → Fixed
opcode_is value = bits_are 6 0 value

abbrev pub rd_is : ℕ → Fixed
rd_is value = bits_are 11 7 value

abbrev pub funct3_is : ℕ → Fixed
funct3_is value = bits_are 14 12 value

abbrev pub rs1_is : ℕ → Fixed
rs1_is value = bits_are 19 15 value

abbrev pub rs2_is : ℕ → Fixed
rs2_is value = bits_are 24 20 value

abbrev pub funct7_is : ℕ → Fixed
funct7_is value = bits_are 31 25 value

-- opcode, funct3, funct7, and the instruction of rd, rs1 and rs2
abbrev pub r_format : ℕ → ℕ → ℕ → (ℕ → ℕ → ℕ → Instr) → Line
r_format opcode funct3 funct7 instr = record {
  fixed = opcode_is opcode ∷ funct3_is funct3 ∷ funct7_is funct7 ∷ [];
  instr = λ word. instr (rd_of word) (rs1_of word) (rs2_of word);
}

-- opcode, funct3, and the instruction of rd, rs1 and the immediate
abbrev pub i_format : ℕ → ℕ → (ℕ → ℕ → ℕ → Instr) → Line
i_format opcode funct3 instr = record {
  fixed = opcode_is opcode ∷ funct3_is funct3 ∷ [];
  instr = λ word. instr (rd_of word) (rs1_of word) (i_immediate word);
}

-- opcode, funct3, and the instruction of rs1, rs2 and the immediate
abbrev pub s_format : ℕ → ℕ → (ℕ → ℕ → ℕ → Instr) → Line
s_format opcode funct3 instr = record {
  fixed = opcode_is opcode ∷ funct3_is funct3 ∷ [];
  instr = λ word. instr (rs1_of word) (rs2_of word) (s_immediate word);
}

-- opcode, funct3, and the instruction of rs1, rs2 and the immediate
abbrev pub b_format : ℕ → ℕ → (ℕ → ℕ → ℕ → Instr) → Line
b_format opcode funct3 instr = record {
  fixed = opcode_is opcode ∷ funct3_is funct3 ∷ [];
  instr = λ word. instr (rs1_of word) (rs2_of word) (b_immediate word);
}

-- opcode, and the instruction of rd and the immediate
abbrev pub u_format : ℕ → (ℕ → ℕ → Instr) → Line
u_format opcode instr = record {
  fixed = opcode_is opcode ∷ [];
  instr = λ word. instr (rd_of word) (u_immediate word);
}

-- opcode, and the instruction of rd and the immediate
abbrev pub j_format : ℕ → (ℕ → ℕ → Instr) → Line
j_format opcode instr = record {
  fixed = opcode_is opcode ∷ [];
  instr = λ word. instr (rd_of word) (j_immediate word);
}

-- a line with more bits fixed
abbrev pub fixing : List Fixed → Line → Line
fixing more line = record { fixed = line.fixed ++ more; instr = line.instr }
