-- Instruction words from their fields (RISC-V Unprivileged ISA 20191213, the figures of sections 2.2 and 2.3): each field at
-- its place, the lowest first. An immediate is a sign-extended word.
use Rattle.std.specs.Prelude.{ℕ, ◌+◌, ◌*◌, ◌^◌}
use Rattle.rv_decode.specs.Bits.{bits}

-- ---- the word of each format

abbrev pub r_word_of : ℕ → ℕ → ℕ → ℕ → ℕ → ℕ → ℕ
r_word_of opcode funct3 funct7 rd rs1 rs2 =
    opcode + 2 ^ 7 * rd + 2 ^ 12 * funct3 + 2 ^ 15 * rs1 + 2 ^ 20 * rs2 + 2 ^ 25 * funct7

abbrev pub i_word_of : ℕ → ℕ → ℕ → ℕ → ℕ → ℕ
i_word_of opcode funct3 rd rs1 imm = opcode + 2 ^ 7 * rd + 2 ^ 12 * funct3 + 2 ^ 15 * rs1 + 2 ^ 20 * bits 11 0 imm

abbrev pub s_word_of : ℕ → ℕ → ℕ → ℕ → ℕ → ℕ
s_word_of opcode funct3 rs1 rs2 imm =
    opcode + 2 ^ 7 * bits 4 0 imm + 2 ^ 12 * funct3 + 2 ^ 15 * rs1 + 2 ^ 20 * rs2 + 2 ^ 25 * bits 11 5 imm

abbrev pub b_word_of : ℕ → ℕ → ℕ → ℕ → ℕ → ℕ
b_word_of opcode funct3 rs1 rs2 offset =
    opcode + 2 ^ 7 * bits 11 11 offset + 2 ^ 8 * bits 4 1 offset + 2 ^ 12 * funct3 + 2 ^ 15 * rs1 + 2 ^ 20 * rs2
    + 2 ^ 25 * bits 10 5 offset + 2 ^ 31 * bits 12 12 offset

abbrev pub u_word_of : ℕ → ℕ → ℕ → ℕ
u_word_of opcode rd imm = opcode + 2 ^ 7 * rd + 2 ^ 12 * bits 31 12 imm

abbrev pub j_word_of : ℕ → ℕ → ℕ → ℕ
j_word_of opcode rd offset =
    opcode + 2 ^ 7 * rd + 2 ^ 12 * bits 19 12 offset + 2 ^ 20 * bits 11 11 offset + 2 ^ 21 * bits 10 1 offset
    + 2 ^ 31 * bits 20 20 offset

-- ---- the words of the instructions that the sample program has (chapter 24, and custom-0 of this project)

abbrev pub lui_word : ℕ → ℕ → ℕ
lui_word rd imm = u_word_of 0x37 rd imm

abbrev pub addi_word : ℕ → ℕ → ℕ → ℕ
addi_word rd rs1 imm = i_word_of 0x13 0 rd rs1 imm

abbrev pub andi_word : ℕ → ℕ → ℕ → ℕ
andi_word rd rs1 imm = i_word_of 0x13 7 rd rs1 imm

-- the amount stands where other words have rs2
abbrev pub srli_word : ℕ → ℕ → ℕ → ℕ
srli_word rd rs1 amount = r_word_of 0x13 5 0 rd rs1 amount

abbrev pub add_word : ℕ → ℕ → ℕ → ℕ
add_word rd rs1 rs2 = r_word_of 0x33 0 0 rd rs1 rs2

abbrev pub xor_word : ℕ → ℕ → ℕ → ℕ
xor_word rd rs1 rs2 = r_word_of 0x33 4 0 rd rs1 rs2

abbrev pub sltu_word : ℕ → ℕ → ℕ → ℕ
sltu_word rd rs1 rs2 = r_word_of 0x33 3 0 rd rs1 rs2

abbrev pub mul_word : ℕ → ℕ → ℕ → ℕ
mul_word rd rs1 rs2 = r_word_of 0x33 0 1 rd rs1 rs2

abbrev pub divu_word : ℕ → ℕ → ℕ → ℕ
divu_word rd rs1 rs2 = r_word_of 0x33 5 1 rd rs1 rs2

abbrev pub lw_word : ℕ → ℕ → ℕ → ℕ
lw_word rd rs1 imm = i_word_of 0x03 2 rd rs1 imm

abbrev pub sw_word : ℕ → ℕ → ℕ → ℕ
sw_word rs1 rs2 imm = s_word_of 0x23 2 rs1 rs2 imm

abbrev pub bne_word : ℕ → ℕ → ℕ → ℕ
bne_word rs1 rs2 offset = b_word_of 0x63 1 rs1 rs2 offset

abbrev pub reveal_word : ℕ → ℕ → ℕ → ℕ
reveal_word base rs1 imm = i_word_of 0x0b 2 base rs1 imm

abbrev pub terminate_word : ℕ → ℕ
terminate_word code = i_word_of 0x0b 0 0 0 code
