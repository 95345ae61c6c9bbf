-- What the words of the sample program's instructions decode to.
use Rattle.std.proofs.Common.{◌≡◌, ℕ, ◌<◌, [], ◌∷◌, true, Some, refl, lit<, arith}
use Rattle.std.proofs.lemmas.Bool.Decides.{nat_tests}
use Rattle.vm_word.specs.declared.operation.AluOp.TheVariants.{Add, Xor, And, Srl, Sltu}
use Rattle.vm_word.specs.declared.operation.MulDivOp.TheVariants.{Mul, Divu}
use Rattle.vm_word.specs.declared.operation.LoadKind.TheVariants.{Lw}
use Rattle.vm_word.specs.declared.operation.StoreKind.TheVariants.{Sw}
use Rattle.vm_word.specs.declared.operation.BranchKind.TheVariants.{Bne}
use Rattle.rv_decode.specs.declared.instr.Instr.TheVariants.{Lui, Branch, Load, Store, AluImm, Alu, MulDiv, Terminate, Reveal}
use Rattle.rv_decode.specs.Bits.{rd_of, rs1_of, i_immediate}
use Rattle.rv_decode.specs.Formats.{fits, bits_are, rd_is, rs1_is}
use Rattle.rv_decode.specs.Listing.{listing, decode_of}
use Rattle.vm_vectors.specs.Laws.{AddiWordDecodes, TerminateWordDecodes}
use Rattle.vm_vectors.specs.Makers.{DecodesByR, DecodesByI, DecodesByS, DecodesByB, DecodesByU}

-- the place of a line in the listing is the number that is given

pub lui_decodes : (word rd imm : ℕ) → DecodesByU word 0x37 rd imm → decode_of word ≡ Some (Lui rd imm)
unfolding listing
lui_decodes word rd imm decoded = decoded.by Lui [] (0, lit< tt, refl) refl

pub bne_decodes : (word rs1 rs2 offset : ℕ) → DecodesByB word 0x63 1 rs1 rs2 offset → decode_of word ≡ Some (Branch Bne rs1 rs2 offset)
unfolding listing
bne_decodes word rs1 rs2 offset decoded = decoded.by (Branch Bne) [] (5, lit< tt, refl) refl

pub lw_decodes : (word rd rs1 imm : ℕ) → DecodesByI word 0x03 2 rd rs1 imm → decode_of word ≡ Some (Load Lw rd rs1 imm)
unfolding listing
lw_decodes word rd rs1 imm decoded = decoded.by (Load Lw) [] (12, lit< tt, refl) refl

pub sw_decodes : (word rs1 rs2 imm : ℕ) → DecodesByS word 0x23 2 rs1 rs2 imm → decode_of word ≡ Some (Store Sw rs1 rs2 imm)
unfolding listing
sw_decodes word rs1 rs2 imm decoded = decoded.by (Store Sw) [] (17, lit< tt, refl) refl

pub addi_decodes : AddiWordDecodes
unfolding listing
addi_decodes word rd rs1 imm decoded = decoded.by (AluImm Add) [] (18, lit< tt, refl) refl

pub andi_decodes : (word rd rs1 imm : ℕ) → DecodesByI word 0x13 7 rd rs1 imm → decode_of word ≡ Some (AluImm And rd rs1 imm)
unfolding listing
andi_decodes word rd rs1 imm decoded = decoded.by (AluImm And) [] (23, lit< tt, refl) refl

pub srli_decodes : (word rd rs1 amount : ℕ) → DecodesByR word 0x13 5 0 rd rs1 amount → decode_of word ≡ Some (AluImm Srl rd rs1 amount)
unfolding listing
srli_decodes word rd rs1 amount decoded = decoded.by (AluImm Srl) [] (25, lit< tt, refl) refl

pub add_decodes : (word rd rs1 rs2 : ℕ) → DecodesByR word 0x33 0 0 rd rs1 rs2 → decode_of word ≡ Some (Alu Add rd rs1 rs2)
unfolding listing
add_decodes word rd rs1 rs2 decoded = decoded.by (Alu Add) [] (27, lit< tt, refl) refl

pub sltu_decodes : (word rd rs1 rs2 : ℕ) → DecodesByR word 0x33 3 0 rd rs1 rs2 → decode_of word ≡ Some (Alu Sltu rd rs1 rs2)
unfolding listing
sltu_decodes word rd rs1 rs2 decoded = decoded.by (Alu Sltu) [] (31, lit< tt, refl) refl

pub xor_decodes : (word rd rs1 rs2 : ℕ) → DecodesByR word 0x33 4 0 rd rs1 rs2 → decode_of word ≡ Some (Alu Xor rd rs1 rs2)
unfolding listing
xor_decodes word rd rs1 rs2 decoded = decoded.by (Alu Xor) [] (32, lit< tt, refl) refl

pub mul_decodes : (word rd rs1 rs2 : ℕ) → DecodesByR word 0x33 0 1 rd rs1 rs2 → decode_of word ≡ Some (MulDiv Mul rd rs1 rs2)
unfolding listing
mul_decodes word rd rs1 rs2 decoded = decoded.by (MulDiv Mul) [] (37, lit< tt, refl) refl

pub divu_decodes : (word rd rs1 rs2 : ℕ) → DecodesByR word 0x33 5 1 rd rs1 rs2 → decode_of word ≡ Some (MulDiv Divu rd rs1 rs2)
unfolding listing
divu_decodes word rd rs1 rs2 decoded = decoded.by (MulDiv Divu) [] (42, lit< tt, refl) refl

fits_byte : (word code : ℕ) → code < 256 → rd_of word ≡ 0 → rs1_of word ≡ 0 → i_immediate word ≡ code
    → fits (rd_is 0 ∷ rs1_is 0 ∷ bits_are 31 28 0 ∷ []) word ≡ true
fits_byte word code byte d s i = grind (arith, nat_tests)

pub terminate_decodes : TerminateWordDecodes
unfolding listing
terminate_decodes word code byte d s i decoded =
    decoded.by (λ rd rs1 imm. Terminate imm) (rd_is 0 ∷ rs1_is 0 ∷ bits_are 31 28 0 ∷ []) (46, lit< tt, refl)
    (fits_byte word code byte d s i)

pub reveal_decodes : (word base rs1 imm : ℕ) → DecodesByI word 0x0b 2 base rs1 imm → decode_of word ≡ Some (Reveal base rs1 imm)
unfolding listing
reveal_decodes word base rs1 imm decoded = decoded.by Reveal [] (48, lit< tt, refl) refl

-- what the functions of src/assembly.rt promise
pub ruleset instr_words = (lui_decodes, bne_decodes, lw_decodes, sw_decodes, addi_decodes, andi_decodes, srli_decodes, add_decodes, sltu_decodes, xor_decodes, mul_decodes, divu_decodes, terminate_decodes, reveal_decodes)
