-- A word with the fields of a listed line decodes to that line's instruction.
use Rattle.std.proofs.Common.{◌≡◌, ℕ, true, List, [], ◌∷◌, ◌++◌, Some, length, refl, ap, sym, ◌∙◌, arith}
use Rattle.std.proofs.lemmas.Bool.Decides.{nat_tests}
use Rattle.std.proofs.lemmas.Option.{slice_get_read}
use Rattle.rv_decode.specs.declared.instr.Instr.{Instr}
use Rattle.rv_decode.specs.Bits.{opcode_of, rd_of, funct3_of, rs1_of, rs2_of, funct7_of, i_immediate, s_immediate, b_immediate, u_immediate, j_immediate}
use Rattle.rv_decode.specs.Formats.{Fixed, Line, fits, fixing, opcode_is, funct3_is, funct7_is, r_format, i_format, s_format, b_format, u_format, j_format}
use Rattle.rv_decode.specs.Listing.{listing}
use Rattle.rv_decode.proofs.ListingLemmas.{decode_of-listed}
use Rattle.vm_vectors.specs.Makers.{DecodesByLine, DecodesByR, DecodesByI, DecodesByS, DecodesByB, DecodesByU, DecodesByJ}

fits-append : (xs ys : List Fixed) (word : ℕ) → fits xs word ≡ true → fits ys word ≡ true → fits (xs ++ ys) word ≡ true
fits-append [] ys word of_xs of_ys = of_ys
fits-append (x ∷ xs) ys word of_xs of_ys =
    let of_rest : fits xs word ≡ true → fits (xs ++ ys) word ≡ true = λ h. fits-append xs ys word h of_ys in
    grind (arith, of_rest)

decodes_by_line : (word : ℕ) (line : Line) (instr : Instr) → fits line.fixed word ≡ true → line.instr word ≡ instr
    → DecodesByLine word line instr
decodes_by_line word line instr fitting same more listed fitting_more =
    decode_of-listed word listed.0 (fixing more line) (record {
      listed = slice_get_read listing (length listing) listed.0 (fixing more line) refl listed.1 (sym listed.2);
      fitting = fits-append line.fixed more word fitting fitting_more;
    }) ∙ ap (λ (i : Instr). Some i) same

fits_opcode : (word opcode : ℕ) → opcode_of word ≡ opcode → fits (opcode_is opcode ∷ []) word ≡ true
fits_opcode word opcode o = grind (arith, nat_tests)

fits_funct3 : (word opcode funct3 : ℕ) → opcode_of word ≡ opcode → funct3_of word ≡ funct3
    → fits (opcode_is opcode ∷ funct3_is funct3 ∷ []) word ≡ true
fits_funct3 word opcode funct3 o f = grind (arith, nat_tests)

fits_funct7 : (word opcode funct3 funct7 : ℕ) → opcode_of word ≡ opcode → funct3_of word ≡ funct3 → funct7_of word ≡ funct7
    → fits (opcode_is opcode ∷ funct3_is funct3 ∷ funct7_is funct7 ∷ []) word ≡ true
fits_funct7 word opcode funct3 funct7 o f g = grind (arith, nat_tests)

same_three : (instr : ℕ → ℕ → ℕ → Instr) (a b c d e f : ℕ) → a ≡ b → c ≡ d → e ≡ f → instr a c e ≡ instr b d f
same_three instr a b c d e f p q r = cc

same_two : (instr : ℕ → ℕ → Instr) (a b c d : ℕ) → a ≡ b → c ≡ d → instr a c ≡ instr b d
same_two instr a b c d p q = cc

pub decodes_by_r : (word opcode funct3 funct7 rd rs1 rs2 : ℕ) → opcode_of word ≡ opcode → funct3_of word ≡ funct3
    → funct7_of word ≡ funct7 → rd_of word ≡ rd → rs1_of word ≡ rs1 → rs2_of word ≡ rs2
    → DecodesByR word opcode funct3 funct7 rd rs1 rs2
decodes_by_r word opcode funct3 funct7 rd rs1 rs2 o f g d s t = record {
  by = λ instr. decodes_by_line word (r_format opcode funct3 funct7 instr) (instr rd rs1 rs2)
      (fits_funct7 word opcode funct3 funct7 o f g) (same_three instr _ rd _ rs1 _ rs2 d s t);
}

pub decodes_by_i : (word opcode funct3 rd rs1 imm : ℕ) → opcode_of word ≡ opcode → funct3_of word ≡ funct3
    → rd_of word ≡ rd → rs1_of word ≡ rs1 → i_immediate word ≡ imm
    → DecodesByI word opcode funct3 rd rs1 imm
decodes_by_i word opcode funct3 rd rs1 imm o f d s i = record {
  by = λ instr. decodes_by_line word (i_format opcode funct3 instr) (instr rd rs1 imm)
      (fits_funct3 word opcode funct3 o f) (same_three instr _ rd _ rs1 _ imm d s i);
}

pub decodes_by_s : (word opcode funct3 rs1 rs2 imm : ℕ) → opcode_of word ≡ opcode → funct3_of word ≡ funct3
    → rs1_of word ≡ rs1 → rs2_of word ≡ rs2 → s_immediate word ≡ imm
    → DecodesByS word opcode funct3 rs1 rs2 imm
decodes_by_s word opcode funct3 rs1 rs2 imm o f s t i = record {
  by = λ instr. decodes_by_line word (s_format opcode funct3 instr) (instr rs1 rs2 imm)
      (fits_funct3 word opcode funct3 o f) (same_three instr _ rs1 _ rs2 _ imm s t i);
}

pub decodes_by_b : (word opcode funct3 rs1 rs2 offset : ℕ) → opcode_of word ≡ opcode → funct3_of word ≡ funct3
    → rs1_of word ≡ rs1 → rs2_of word ≡ rs2 → b_immediate word ≡ offset
    → DecodesByB word opcode funct3 rs1 rs2 offset
decodes_by_b word opcode funct3 rs1 rs2 offset o f s t i = record {
  by = λ instr. decodes_by_line word (b_format opcode funct3 instr) (instr rs1 rs2 offset)
      (fits_funct3 word opcode funct3 o f) (same_three instr _ rs1 _ rs2 _ offset s t i);
}

pub decodes_by_u : (word opcode rd imm : ℕ) → opcode_of word ≡ opcode → rd_of word ≡ rd → u_immediate word ≡ imm
    → DecodesByU word opcode rd imm
decodes_by_u word opcode rd imm o d i = record {
  by = λ instr. decodes_by_line word (u_format opcode instr) (instr rd imm)
      (fits_opcode word opcode o) (same_two instr _ rd _ imm d i);
}

pub decodes_by_j : (word opcode rd offset : ℕ) → opcode_of word ≡ opcode → rd_of word ≡ rd → j_immediate word ≡ offset
    → DecodesByJ word opcode rd offset
decodes_by_j word opcode rd offset o d i = record {
  by = λ instr. decodes_by_line word (j_format opcode instr) (instr rd offset)
      (fits_opcode word opcode o) (same_two instr _ rd _ offset d i);
}
