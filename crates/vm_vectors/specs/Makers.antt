-- The immediates that a format can spell, and what a word of a format decodes to.
use Rattle.std.specs.Prelude.{ℕ, ◌≡◌, ◌%◌, ◌^◌, List, Some, IsTrue, Contains}
use Rattle.rv_decode.specs.declared.instr.Instr.{Instr}
use Rattle.vm_word.specs.Arithmetic.{sign_extended}
use Rattle.rv_decode.specs.Formats.{Fixed, Line, fits, fixing, r_format, i_format, s_format, b_format, u_format, j_format}
use Rattle.rv_decode.specs.Listing.{listing, decode_of}

-- a number of this width, sign-extended to a word
abbrev pub IsSignExtended : ℕ → ℕ → Type 0
IsSignExtended width number = sign_extended width (number % 2 ^ width) ≡ number

-- the same, of an even number
abbrev pub IsEvenSignExtended : ℕ → ℕ → Type 0
IsEvenSignExtended width number = IsSignExtended width number × (number % 2 ≡ 0)

-- Where the listing has this line, with more bits fixed as the word has them or with none, the word decodes
-- to this instruction.
abbrev pub DecodesByLine : ℕ → Line → Instr → Type 0
DecodesByLine word line instr = (more : List Fixed) → Contains listing (fixing more line) → IsTrue (fits more word)
    → decode_of word ≡ Some instr

-- whatever instruction of the R format is listed for this opcode, funct3 and funct7, the word is it, with these fields
pub record DecodesByR (word opcode funct3 funct7 rd rs1 rs2 : ℕ) : Type 0 where
  pub by : (instr : ℕ → ℕ → ℕ → Instr) → DecodesByLine word (r_format opcode funct3 funct7 instr) (instr rd rs1 rs2)

-- the same of the I format
pub record DecodesByI (word opcode funct3 rd rs1 imm : ℕ) : Type 0 where
  pub by : (instr : ℕ → ℕ → ℕ → Instr) → DecodesByLine word (i_format opcode funct3 instr) (instr rd rs1 imm)

-- the same of the S format
pub record DecodesByS (word opcode funct3 rs1 rs2 imm : ℕ) : Type 0 where
  pub by : (instr : ℕ → ℕ → ℕ → Instr) → DecodesByLine word (s_format opcode funct3 instr) (instr rs1 rs2 imm)

-- the same of the B format
pub record DecodesByB (word opcode funct3 rs1 rs2 offset : ℕ) : Type 0 where
  pub by : (instr : ℕ → ℕ → ℕ → Instr) → DecodesByLine word (b_format opcode funct3 instr) (instr rs1 rs2 offset)

-- the same of the U format
pub record DecodesByU (word opcode rd imm : ℕ) : Type 0 where
  pub by : (instr : ℕ → ℕ → Instr) → DecodesByLine word (u_format opcode instr) (instr rd imm)

-- the same of the J format
pub record DecodesByJ (word opcode rd offset : ℕ) : Type 0 where
  pub by : (instr : ℕ → ℕ → Instr) → DecodesByLine word (j_format opcode instr) (instr rd offset)
