-- The word of a format has the fields that it is made of, so it decodes by them.
use Rattle.std.proofs.Common.{◌≡◌, ℕ, ◌%◌, ◌^◌, ◌<◌, arith}
use Rattle.vm_vectors.specs.Makers.{IsSignExtended, DecodesByI, DecodesByU}
use Rattle.vm_vectors.specs.Words.{i_word_of, u_word_of}
use Rattle.vm_vectors.proofs.MakerLemmas.{decodes_by_i, decodes_by_u}

module _ (opcode funct3 rd rs1 imm : ℕ) (o : opcode < 128) (f : funct3 < 8) (d : rd < 32) (s : rs1 < 32) where
  pub i_fits : i_word_of opcode funct3 rd rs1 imm < 2 ^ 32
  i_fits = omega arith

  pub i_decodes : IsSignExtended 12 imm → DecodesByI (i_word_of opcode funct3 rd rs1 imm) opcode funct3 rd rs1 imm
  i_decodes i = decodes_by_i (i_word_of opcode funct3 rd rs1 imm) opcode funct3 rd rs1 imm
      (omega arith) (omega arith) (omega arith) (omega arith) (grind arith)

module _ (opcode rd imm : ℕ) (o : opcode < 128) (d : rd < 32) where
  pub u_fits : u_word_of opcode rd imm < 2 ^ 32
  u_fits = omega arith

  pub u_decodes : imm < 2 ^ 32 → imm % 2 ^ 12 ≡ 0 → DecodesByU (u_word_of opcode rd imm) opcode rd imm
  u_decodes fits low = decodes_by_u (u_word_of opcode rd imm) opcode rd imm (omega arith) (omega arith) (omega arith)
