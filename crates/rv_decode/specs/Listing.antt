-- The listing of instruction words: RV32I and RV32M as the manual lists them (RISC-V Unprivileged ISA
-- 20191213, chapter 24), and this project's four words on custom-0. A line has its format, the opcode,
-- funct3 and funct7 where the format has them, and the instruction.
use Rattle.std.specs.Prelude.{ℕ, List, [], ◌∷◌, ◌++◌, Option, None, Some, if◌then◌else◌}
use Rattle.rv_decode.specs.declared.instr.Instr.{Instr}
use Rattle.rv_decode.specs.declared.instr.Instr.TheVariants.{Lui, Auipc, Jal, Jalr, Branch, Load, Store, AluImm, Alu, MulDiv, Fence, Terminate, HintStore, Reveal, ShaBlock}
use Rattle.vm_word.specs.declared.operation.BranchKind.TheVariants.{Beq, Bne, Blt, Bge, Bltu, Bgeu}
use Rattle.vm_word.specs.declared.operation.LoadKind.TheVariants.{Lb, Lh, Lw, Lbu, Lhu}
use Rattle.vm_word.specs.declared.operation.StoreKind.TheVariants.{Sb, Sh, Sw}
use Rattle.vm_word.specs.declared.operation.AluOp.TheVariants.{Add, Sub, Sll, Slt, Sltu, Xor, Srl, Sra, Or, And}
use Rattle.vm_word.specs.declared.operation.MulDivOp.TheVariants.{Mul, Mulh, Mulhsu, Mulhu, Div, Divu, Rem, Remu}
use Rattle.rv_decode.specs.Formats.{Line, fits, bits_are, rd_is, rs1_is, rs2_is, r_format, i_format, s_format, b_format, u_format, j_format, fixing}

abbrev pub lui_lines : List Line
lui_lines = u_format 0x37 Lui ∷ []

abbrev pub auipc_lines : List Line
auipc_lines = u_format 0x17 Auipc ∷ []

abbrev pub jal_lines : List Line
jal_lines = j_format 0x6f Jal ∷ []

abbrev pub jalr_lines : List Line
jalr_lines = i_format 0x67 0 Jalr ∷ []

abbrev pub branch_lines : List Line
branch_lines =
    b_format 0x63 0 (Branch Beq)
    ∷ b_format 0x63 1 (Branch Bne)
    ∷ b_format 0x63 4 (Branch Blt)
    ∷ b_format 0x63 5 (Branch Bge)
    ∷ b_format 0x63 6 (Branch Bltu)
    ∷ b_format 0x63 7 (Branch Bgeu)
    ∷ []

abbrev pub load_lines : List Line
load_lines =
    i_format 0x03 0 (Load Lb)
    ∷ i_format 0x03 1 (Load Lh)
    ∷ i_format 0x03 2 (Load Lw)
    ∷ i_format 0x03 4 (Load Lbu)
    ∷ i_format 0x03 5 (Load Lhu)
    ∷ []

abbrev pub store_lines : List Line
store_lines =
    s_format 0x23 0 (Store Sb)
    ∷ s_format 0x23 1 (Store Sh)
    ∷ s_format 0x23 2 (Store Sw)
    ∷ []

-- a shift by an immediate has its amount in the place of rs2
abbrev pub op_imm_lines : List Line
op_imm_lines =
    i_format 0x13 0 (AluImm Add)
    ∷ i_format 0x13 2 (AluImm Slt)
    ∷ i_format 0x13 3 (AluImm Sltu)
    ∷ i_format 0x13 4 (AluImm Xor)
    ∷ i_format 0x13 6 (AluImm Or)
    ∷ i_format 0x13 7 (AluImm And)
    ∷ r_format 0x13 1 0 (AluImm Sll)
    ∷ r_format 0x13 5 0 (AluImm Srl)
    ∷ r_format 0x13 5 32 (AluImm Sra)
    ∷ []

abbrev pub op_lines : List Line
op_lines =
    r_format 0x33 0 0 (Alu Add)
    ∷ r_format 0x33 0 32 (Alu Sub)
    ∷ r_format 0x33 1 0 (Alu Sll)
    ∷ r_format 0x33 2 0 (Alu Slt)
    ∷ r_format 0x33 3 0 (Alu Sltu)
    ∷ r_format 0x33 4 0 (Alu Xor)
    ∷ r_format 0x33 5 0 (Alu Srl)
    ∷ r_format 0x33 5 32 (Alu Sra)
    ∷ r_format 0x33 6 0 (Alu Or)
    ∷ r_format 0x33 7 0 (Alu And)
    ∷ r_format 0x33 0 1 (MulDiv Mul)
    ∷ r_format 0x33 1 1 (MulDiv Mulh)
    ∷ r_format 0x33 2 1 (MulDiv Mulhsu)
    ∷ r_format 0x33 3 1 (MulDiv Mulhu)
    ∷ r_format 0x33 4 1 (MulDiv Div)
    ∷ r_format 0x33 5 1 (MulDiv Divu)
    ∷ r_format 0x33 6 1 (MulDiv Rem)
    ∷ r_format 0x33 7 1 (MulDiv Remu)
    ∷ []

-- a fence with any fields: FENCE.TSO and the hints in it too
abbrev pub fence_lines : List Line
fence_lines = i_format 0x0f 0 (λ rd rs1 imm. Fence) ∷ []

-- the words on custom-0; an exit code is an immediate of 0 to 255, so its top four bits are 0
abbrev pub custom_lines : List Line
custom_lines =
    fixing (rd_is 0 ∷ rs1_is 0 ∷ bits_are 31 28 0 ∷ []) (i_format 0x0b 0 (λ rd rs1 imm. Terminate imm))
    ∷ fixing (rs1_is 0 ∷ []) (i_format 0x0b 1 (λ base rs1 imm. HintStore base imm))
    ∷ i_format 0x0b 2 Reveal
    ∷ fixing (rs2_is 0 ∷ []) (r_format 0x0b 4 1 (λ state block rs2. ShaBlock state block))
    ∷ []

unfoldable pub listing : List Line
listing =
    lui_lines ++ auipc_lines ++ jal_lines ++ jalr_lines ++ branch_lines ++ load_lines ++ store_lines
    ++ op_imm_lines ++ op_lines ++ fence_lines ++ custom_lines

-- the instruction of the line that fits
abbrev pub listed_in : List Line → ℕ → Option Instr
listed_in [] word = None
listed_in (line ∷ rest) word = if fits line.fixed word then Some (line.instr word) else listed_in rest word

-- the instruction that is listed for a word
abbrev pub decode_of : ℕ → Option Instr
decode_of word = listed_in listing word
