-- Parts of an instruction word (RISC-V Unprivileged ISA 20191213, sections 2.2 and 2.3).
use Rattle.std.specs.Prelude.{ℕ, ◌+◌, ◌-◌, ◌*◌, ◌/◌, ◌%◌, ◌^◌}
use Rattle.vm_word.specs.Arithmetic.{sign_extended}

-- bits high to low, as a number
abbrev pub bits : ℕ → ℕ → ℕ → ℕ
bits high low word = word / 2 ^ low % 2 ^ (high + 1 - low)

abbrev pub opcode_of : ℕ → ℕ
opcode_of word = bits 6 0 word

abbrev pub rd_of : ℕ → ℕ
rd_of word = bits 11 7 word

abbrev pub funct3_of : ℕ → ℕ
funct3_of word = bits 14 12 word

abbrev pub rs1_of : ℕ → ℕ
rs1_of word = bits 19 15 word

abbrev pub rs2_of : ℕ → ℕ
rs2_of word = bits 24 20 word

abbrev pub funct7_of : ℕ → ℕ
funct7_of word = bits 31 25 word

-- the immediate of the I format
abbrev pub i_immediate : ℕ → ℕ
i_immediate word = sign_extended 12 (bits 31 20 word)

-- the immediate of the S format
abbrev pub s_immediate : ℕ → ℕ
s_immediate word = sign_extended 12 (2 ^ 5 * bits 31 25 word + bits 11 7 word)

-- the immediate of the B format, whose lowest bit is 0
abbrev pub b_immediate : ℕ → ℕ
b_immediate word =
    sign_extended 13 (2 ^ 12 * bits 31 31 word + 2 ^ 11 * bits 7 7 word + 2 ^ 5 * bits 30 25 word + 2 * bits 11 8 word)

-- the immediate of the U format, whose low twelve bits are 0
abbrev pub u_immediate : ℕ → ℕ
u_immediate word = 2 ^ 12 * bits 31 12 word

-- the immediate of the J format, whose lowest bit is 0
abbrev pub j_immediate : ℕ → ℕ
j_immediate word =
    sign_extended 21 (2 ^ 20 * bits 31 31 word + 2 ^ 12 * bits 19 12 word + 2 ^ 11 * bits 20 20 word + 2 * bits 30 21 word)
