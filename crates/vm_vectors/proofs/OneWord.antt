-- An instruction is listed for one word.
use Rattle.std.proofs.Common.{◌≡◌, ℕ, ◌<◌, ◌^◌, ◌==◌, Bool, true, false, List, [], ◌∷◌, filter, None, Some, refl, sym, ap, ◌∙◌, arith}
use Rattle.std.proofs.lemmas.Bool.{and_parts, eq-eqb, eqb-true}
use Rattle.std.proofs.lemmas.Bool.Decides.{nat_tests}
use Rattle.vm_word.specs.declared.operation.AluOp.TheVariants.{Add, Sub, Sll, Slt, Sltu, Xor, Srl, Sra, Or, And}
use Rattle.vm_word.specs.declared.operation.MulDivOp.TheVariants.{Mul, Mulh, Mulhsu, Mulhu, Div, Divu, Rem, Remu}
use Rattle.vm_word.specs.declared.operation.BranchKind.TheVariants.{Beq, Bne, Blt, Bge, Bltu, Bgeu}
use Rattle.vm_word.specs.declared.operation.LoadKind.TheVariants.{Lb, Lh, Lw, Lbu, Lhu}
use Rattle.vm_word.specs.declared.operation.StoreKind.TheVariants.{Sb, Sh, Sw}
use Rattle.rv_decode.specs.declared.instr.Instr.{Instr}
use Rattle.rv_decode.specs.declared.instr.Instr.TheVariants.{Lui, Auipc, Jal, Jalr, Branch, Load, Store, AluImm, Alu, MulDiv, Fence, Terminate, HintStore, Reveal, ShaBlock}
use Rattle.rv_decode.specs.Bits.{bits, opcode_of, rd_of, funct3_of, rs1_of, rs2_of, funct7_of, i_immediate, s_immediate, b_immediate, u_immediate, j_immediate}
use Rattle.rv_decode.specs.Formats.{Fixed, Line, fits, fixing, bits_are, opcode_is, funct3_is, funct7_is, rd_is, rs1_is, rs2_is, r_format, i_format, s_format, b_format, u_format, j_format}
use Rattle.rv_decode.specs.Listing.{listing, listed_in, decode_of}
use Rattle.vm_vectors.specs.Laws.{InstrHasOneWord}

-- ---- the line of an instruction

-- its place in the listing
abbrev place_of : Instr → ℕ
place_of (Lui rd imm) = 0
place_of (Auipc rd imm) = 1
place_of (Jal rd offset) = 2
place_of (Jalr rd rs1 imm) = 3
place_of (Branch Beq rs1 rs2 offset) = 4
place_of (Branch Bne rs1 rs2 offset) = 5
place_of (Branch Blt rs1 rs2 offset) = 6
place_of (Branch Bge rs1 rs2 offset) = 7
place_of (Branch Bltu rs1 rs2 offset) = 8
place_of (Branch Bgeu rs1 rs2 offset) = 9
place_of (Load Lb rd rs1 imm) = 10
place_of (Load Lh rd rs1 imm) = 11
place_of (Load Lw rd rs1 imm) = 12
place_of (Load Lbu rd rs1 imm) = 13
place_of (Load Lhu rd rs1 imm) = 14
place_of (Store Sb rs1 rs2 imm) = 15
place_of (Store Sh rs1 rs2 imm) = 16
place_of (Store Sw rs1 rs2 imm) = 17
place_of (AluImm Add rd rs1 imm) = 18
place_of (AluImm Slt rd rs1 imm) = 19
place_of (AluImm Sltu rd rs1 imm) = 20
place_of (AluImm Xor rd rs1 imm) = 21
place_of (AluImm Or rd rs1 imm) = 22
place_of (AluImm And rd rs1 imm) = 23
place_of (AluImm Sll rd rs1 imm) = 24
place_of (AluImm Srl rd rs1 imm) = 25
place_of (AluImm Sra rd rs1 imm) = 26
place_of (Alu Add rd rs1 rs2) = 27
place_of (Alu Sub rd rs1 rs2) = 28
place_of (Alu Sll rd rs1 rs2) = 29
place_of (Alu Slt rd rs1 rs2) = 30
place_of (Alu Sltu rd rs1 rs2) = 31
place_of (Alu Xor rd rs1 rs2) = 32
place_of (Alu Srl rd rs1 rs2) = 33
place_of (Alu Sra rd rs1 rs2) = 34
place_of (Alu Or rd rs1 rs2) = 35
place_of (Alu And rd rs1 rs2) = 36
place_of (MulDiv Mul rd rs1 rs2) = 37
place_of (MulDiv Mulh rd rs1 rs2) = 38
place_of (MulDiv Mulhsu rd rs1 rs2) = 39
place_of (MulDiv Mulhu rd rs1 rs2) = 40
place_of (MulDiv Div rd rs1 rs2) = 41
place_of (MulDiv Divu rd rs1 rs2) = 42
place_of (MulDiv Rem rd rs1 rs2) = 43
place_of (MulDiv Remu rd rs1 rs2) = 44
place_of Fence = 45
place_of (Terminate code) = 46
place_of (HintStore base imm) = 47
place_of (Reveal base rs1 imm) = 48
place_of (ShaBlock state block) = 49
place_of (AluImm Sub rd rs1 imm) = 50

-- the lines that make such instructions of a word
abbrev lines_for : Instr → ℕ → List Line
lines_for instr word = filter (λ line. place_of (line.instr word) == place_of instr) listing

some_one : (a b : Instr) → Some a ≡ Some b → a ≡ b
some_one a b e = cc

-- one line before others
kept_first : (line : Line) (rest : List Line) (word : ℕ) (instr : Instr) (fit here : Bool) → fits line.fixed word ≡ fit → (place_of (line.instr word) == place_of instr) ≡ here
    → listed_in (line ∷ rest) word ≡ Some instr
    → (listed_in rest word ≡ Some instr → listed_in (filter (λ l. place_of (l.instr word) == place_of instr) rest) word ≡ Some instr)
    → listed_in (filter (λ l. place_of (l.instr word) == place_of instr) (line ∷ rest)) word ≡ Some instr
kept_first line rest word instr true true e p h more = rw (p, e) (rw e at h)
kept_first line rest word instr true false e p h more =
    let is : line.instr word ≡ instr = some_one (line.instr word) instr (rw e at h) in
    let no : true ≡ false = sym (eq-eqb (place_of (line.instr word)) (place_of instr) (ap place_of is)) ∙ p in
    absurd (cc)
kept_first line rest word instr false true e p h more = rw (p, e) (more (rw e at h))
kept_first line rest word instr false false e p h more = rw p (more (rw e at h))

kept : (lines : List Line) (word : ℕ) (instr : Instr) → listed_in lines word ≡ Some instr
    → listed_in (filter (λ line. place_of (line.instr word) == place_of instr) lines) word ≡ Some instr
kept [] word instr h = h
kept (line ∷ rest) word instr h =
    kept_first line rest word instr (fits line.fixed word) (place_of (line.instr word) == place_of instr) refl refl h (λ r. kept rest word instr r)

single : (line : Line) (word : ℕ) (instr : Instr) → listed_in (line ∷ []) word ≡ Some instr → (fits line.fixed word ≡ true) × (line.instr word ≡ instr)
single line word instr h = by_fit (fits line.fixed word) refl
  where
    by_fit : (fit : Bool) → fits line.fixed word ≡ fit → (fits line.fixed word ≡ true) × (line.instr word ≡ instr)
    by_fit true e = (e, some_one (line.instr word) instr (rw e at h))
    by_fit false e = let no : None ≡ Some instr = rw e at h in absurd (cc)

on_line : (word : ℕ) (instr : Instr) (line : Line) → decode_of word ≡ Some instr → lines_for instr word ≡ line ∷ [] → (fits line.fixed word ≡ true) × (line.instr word ≡ instr)
on_line word instr line h one = single line word instr (sym (ap (λ lines. listed_in lines word) one) ∙ kept listing word instr h)

no_line : (word : ℕ) (instr : Instr) → decode_of word ≡ Some instr → lines_for instr word ≡ [] → ⊥
no_line word instr h none =
    let no : None ≡ Some instr = sym (ap (λ lines. listed_in lines word) none) ∙ kept listing word instr h in
    absurd (cc)

-- ---- the word of a line's fields

same_u : (word other : ℕ) → word < 2 ^ 32 → other < 2 ^ 32
    → opcode_of word ≡ opcode_of other → rd_of word ≡ rd_of other → u_immediate word ≡ u_immediate other → word ≡ other
same_u word other w o h0 h1 h2 = omega arith

same_j : (word other : ℕ) → word < 2 ^ 32 → other < 2 ^ 32
    → opcode_of word ≡ opcode_of other → rd_of word ≡ rd_of other → j_immediate word ≡ j_immediate other → word ≡ other
same_j word other w o h0 h1 h2 = grind (arith, nat_tests)

same_i : (word other : ℕ) → word < 2 ^ 32 → other < 2 ^ 32
    → opcode_of word ≡ opcode_of other → funct3_of word ≡ funct3_of other → rd_of word ≡ rd_of other → rs1_of word ≡ rs1_of other → i_immediate word ≡ i_immediate other → word ≡ other
same_i word other w o h0 h1 h2 h3 h4 = grind (arith, nat_tests)

same_s : (word other : ℕ) → word < 2 ^ 32 → other < 2 ^ 32
    → opcode_of word ≡ opcode_of other → funct3_of word ≡ funct3_of other → rs1_of word ≡ rs1_of other → rs2_of word ≡ rs2_of other → s_immediate word ≡ s_immediate other → word ≡ other
same_s word other w o h0 h1 h2 h3 h4 = grind (arith, nat_tests)

same_b : (word other : ℕ) → word < 2 ^ 32 → other < 2 ^ 32
    → opcode_of word ≡ opcode_of other → funct3_of word ≡ funct3_of other → rs1_of word ≡ rs1_of other → rs2_of word ≡ rs2_of other → b_immediate word ≡ b_immediate other → word ≡ other
same_b word other w o h0 h1 h2 h3 h4 = grind (arith, nat_tests)

same_r : (word other : ℕ) → word < 2 ^ 32 → other < 2 ^ 32
    → opcode_of word ≡ opcode_of other → funct3_of word ≡ funct3_of other → funct7_of word ≡ funct7_of other → rd_of word ≡ rd_of other → rs1_of word ≡ rs1_of other → rs2_of word ≡ rs2_of other → word ≡ other
same_r word other w o h0 h1 h2 h3 h4 h5 = omega arith

-- ---- lines by which two words don't make one instruction

record IsOneToOne (line : Line) : Type 0 where
  same : (word other : ℕ) → word < 2 ^ 32 → other < 2 ^ 32 → fits line.fixed word ≡ true → fits line.fixed other ≡ true → line.instr word ≡ line.instr other → word ≡ other

abbrev IsInjective2 : (ℕ → ℕ → Instr) → Type 0
IsInjective2 make = (a b c d : ℕ) → make a b ≡ make c d → (a ≡ c) × (b ≡ d)

abbrev IsInjective3 : (ℕ → ℕ → ℕ → Instr) → Type 0
IsInjective3 make = (a b c d e f : ℕ) → make a b c ≡ make d e f → (a ≡ d) × (b ≡ e) × (c ≡ f)

fixed_alike : (f : Fixed) (rest : List Fixed) (word other : ℕ) → fits (f ∷ rest) word ≡ true → fits (f ∷ rest) other ≡ true
    → (bits f.high f.low word ≡ bits f.high f.low other) × (fits rest word ≡ true) × (fits rest other ≡ true)
fixed_alike f rest word other h k =
    let here = and_parts (bits f.high f.low word == f.value) (fits rest word) h in
    let there = and_parts (bits f.high f.low other == f.value) (fits rest other) k in
    (eqb-true _ _ here.0 ∙ sym (eqb-true _ _ there.0), here.1, there.1)

u_line : (opcode : ℕ) (make : ℕ → ℕ → Instr) → IsInjective2 make → IsOneToOne (u_format opcode make)
u_line opcode make injective = record {
  same = λ word other w o h k e.
      let fields = injective (rd_of word) (u_immediate word) (rd_of other) (u_immediate other) e in
      let a0 = fixed_alike (opcode_is opcode) [] word other h k in
      same_u word other w o a0.0 fields.0 fields.1;
}

j_line : (opcode : ℕ) (make : ℕ → ℕ → Instr) → IsInjective2 make → IsOneToOne (j_format opcode make)
j_line opcode make injective = record {
  same = λ word other w o h k e.
      let fields = injective (rd_of word) (j_immediate word) (rd_of other) (j_immediate other) e in
      let a0 = fixed_alike (opcode_is opcode) [] word other h k in
      same_j word other w o a0.0 fields.0 fields.1;
}

i_line : (opcode funct3 : ℕ) (make : ℕ → ℕ → ℕ → Instr) → IsInjective3 make → IsOneToOne (i_format opcode funct3 make)
i_line opcode funct3 make injective = record {
  same = λ word other w o h k e.
      let fields = injective (rd_of word) (rs1_of word) (i_immediate word) (rd_of other) (rs1_of other) (i_immediate other) e in
      let a0 = fixed_alike (opcode_is opcode) (funct3_is funct3 ∷ []) word other h k in
      let a1 = fixed_alike (funct3_is funct3) [] word other a0.1 a0.2 in
      same_i word other w o a0.0 a1.0 fields.0 fields.1 fields.2;
}

s_line : (opcode funct3 : ℕ) (make : ℕ → ℕ → ℕ → Instr) → IsInjective3 make → IsOneToOne (s_format opcode funct3 make)
s_line opcode funct3 make injective = record {
  same = λ word other w o h k e.
      let fields = injective (rs1_of word) (rs2_of word) (s_immediate word) (rs1_of other) (rs2_of other) (s_immediate other) e in
      let a0 = fixed_alike (opcode_is opcode) (funct3_is funct3 ∷ []) word other h k in
      let a1 = fixed_alike (funct3_is funct3) [] word other a0.1 a0.2 in
      same_s word other w o a0.0 a1.0 fields.0 fields.1 fields.2;
}

b_line : (opcode funct3 : ℕ) (make : ℕ → ℕ → ℕ → Instr) → IsInjective3 make → IsOneToOne (b_format opcode funct3 make)
b_line opcode funct3 make injective = record {
  same = λ word other w o h k e.
      let fields = injective (rs1_of word) (rs2_of word) (b_immediate word) (rs1_of other) (rs2_of other) (b_immediate other) e in
      let a0 = fixed_alike (opcode_is opcode) (funct3_is funct3 ∷ []) word other h k in
      let a1 = fixed_alike (funct3_is funct3) [] word other a0.1 a0.2 in
      same_b word other w o a0.0 a1.0 fields.0 fields.1 fields.2;
}

r_line : (opcode funct3 funct7 : ℕ) (make : ℕ → ℕ → ℕ → Instr) → IsInjective3 make → IsOneToOne (r_format opcode funct3 funct7 make)
r_line opcode funct3 funct7 make injective = record {
  same = λ word other w o h k e.
      let fields = injective (rd_of word) (rs1_of word) (rs2_of word) (rd_of other) (rs1_of other) (rs2_of other) e in
      let a0 = fixed_alike (opcode_is opcode) (funct3_is funct3 ∷ funct7_is funct7 ∷ []) word other h k in
      let a1 = fixed_alike (funct3_is funct3) (funct7_is funct7 ∷ []) word other a0.1 a0.2 in
      let a2 = fixed_alike (funct7_is funct7) [] word other a1.1 a1.2 in
      same_r word other w o a0.0 a1.0 a2.0 fields.0 fields.1 fields.2;
}

terminate_line : IsOneToOne (fixing (rd_is 0 ∷ rs1_is 0 ∷ bits_are 31 28 0 ∷ []) (i_format 0x0b 0 (λ rd rs1 imm. Terminate imm)))
terminate_line = record {
  same = λ word other w o h k e.
      let made : Terminate (i_immediate word) ≡ Terminate (i_immediate other) = e in
      let a0 = fixed_alike (opcode_is 0x0b) (funct3_is 0 ∷ rd_is 0 ∷ rs1_is 0 ∷ bits_are 31 28 0 ∷ []) word other h k in
      let a1 = fixed_alike (funct3_is 0) (rd_is 0 ∷ rs1_is 0 ∷ bits_are 31 28 0 ∷ []) word other a0.1 a0.2 in
      let a2 = fixed_alike (rd_is 0) (rs1_is 0 ∷ bits_are 31 28 0 ∷ []) word other a1.1 a1.2 in
      let a3 = fixed_alike (rs1_is 0) (bits_are 31 28 0 ∷ []) word other a2.1 a2.2 in
      same_i word other w o a0.0 a1.0 a2.0 a3.0 (cc);
}

hint_line : IsOneToOne (fixing (rs1_is 0 ∷ []) (i_format 0x0b 1 (λ base rs1 imm. HintStore base imm)))
hint_line = record {
  same = λ word other w o h k e.
      let made : HintStore (rd_of word) (i_immediate word) ≡ HintStore (rd_of other) (i_immediate other) = e in
      let a0 = fixed_alike (opcode_is 0x0b) (funct3_is 1 ∷ rs1_is 0 ∷ []) word other h k in
      let a1 = fixed_alike (funct3_is 1) (rs1_is 0 ∷ []) word other a0.1 a0.2 in
      let a2 = fixed_alike (rs1_is 0) [] word other a1.1 a1.2 in
      same_i word other w o a0.0 a1.0 (cc) a2.0 (cc);
}

sha_line : IsOneToOne (fixing (rs2_is 0 ∷ []) (r_format 0x0b 4 1 (λ state block rs2. ShaBlock state block)))
sha_line = record {
  same = λ word other w o h k e.
      let made : ShaBlock (rd_of word) (rs1_of word) ≡ ShaBlock (rd_of other) (rs1_of other) = e in
      let a0 = fixed_alike (opcode_is 0x0b) (funct3_is 4 ∷ funct7_is 1 ∷ rs2_is 0 ∷ []) word other h k in
      let a1 = fixed_alike (funct3_is 4) (funct7_is 1 ∷ rs2_is 0 ∷ []) word other a0.1 a0.2 in
      let a2 = fixed_alike (funct7_is 1) (rs2_is 0 ∷ []) word other a1.1 a1.2 in
      let a3 = fixed_alike (rs2_is 0) [] word other a2.1 a2.2 in
      same_r word other w o a0.0 a1.0 a2.0 (cc) (cc) a3.0;
}

-- two words of an instruction that is made on one line alone
by_line : (line : Line) → IsOneToOne line → (word other : ℕ) (instr : Instr) → word < 2 ^ 32 → other < 2 ^ 32 → decode_of word ≡ Some instr → decode_of other ≡ Some instr
    → lines_for instr word ≡ line ∷ [] → lines_for instr other ≡ line ∷ [] → word ≡ other
by_line line one word other instr w o h k on too =
    let here = on_line word instr line h on in
    let there = on_line other instr line k too in
    one.same word other w o here.0 there.0 (here.1 ∙ sym there.1)

pub one_word : InstrHasOneWord
unfolding listing
one_word word other (Lui rd imm) w o h k some = by_line _ (u_line 0x37 Lui (λ a b c d e. ((cc), (cc)))) word other _ w o h k refl refl
one_word word other (Auipc rd imm) w o h k some = by_line _ (u_line 0x17 Auipc (λ a b c d e. ((cc), (cc)))) word other _ w o h k refl refl
one_word word other (Jal rd offset) w o h k some = by_line _ (j_line 0x6f Jal (λ a b c d e. ((cc), (cc)))) word other _ w o h k refl refl
one_word word other (Jalr rd rs1 imm) w o h k some = by_line _ (i_line 0x67 0 Jalr (λ a b c d e f h. ((cc), (cc), (cc)))) word other _ w o h k refl refl
one_word word other (Branch Beq rs1 rs2 offset) w o h k some = by_line _ (b_line 0x63 0 (Branch Beq) (λ a b c d e f h. ((cc), (cc), (cc)))) word other _ w o h k refl refl
one_word word other (Branch Bne rs1 rs2 offset) w o h k some = by_line _ (b_line 0x63 1 (Branch Bne) (λ a b c d e f h. ((cc), (cc), (cc)))) word other _ w o h k refl refl
one_word word other (Branch Blt rs1 rs2 offset) w o h k some = by_line _ (b_line 0x63 4 (Branch Blt) (λ a b c d e f h. ((cc), (cc), (cc)))) word other _ w o h k refl refl
one_word word other (Branch Bge rs1 rs2 offset) w o h k some = by_line _ (b_line 0x63 5 (Branch Bge) (λ a b c d e f h. ((cc), (cc), (cc)))) word other _ w o h k refl refl
one_word word other (Branch Bltu rs1 rs2 offset) w o h k some = by_line _ (b_line 0x63 6 (Branch Bltu) (λ a b c d e f h. ((cc), (cc), (cc)))) word other _ w o h k refl refl
one_word word other (Branch Bgeu rs1 rs2 offset) w o h k some = by_line _ (b_line 0x63 7 (Branch Bgeu) (λ a b c d e f h. ((cc), (cc), (cc)))) word other _ w o h k refl refl
one_word word other (Load Lb rd rs1 imm) w o h k some = by_line _ (i_line 0x03 0 (Load Lb) (λ a b c d e f h. ((cc), (cc), (cc)))) word other _ w o h k refl refl
one_word word other (Load Lh rd rs1 imm) w o h k some = by_line _ (i_line 0x03 1 (Load Lh) (λ a b c d e f h. ((cc), (cc), (cc)))) word other _ w o h k refl refl
one_word word other (Load Lw rd rs1 imm) w o h k some = by_line _ (i_line 0x03 2 (Load Lw) (λ a b c d e f h. ((cc), (cc), (cc)))) word other _ w o h k refl refl
one_word word other (Load Lbu rd rs1 imm) w o h k some = by_line _ (i_line 0x03 4 (Load Lbu) (λ a b c d e f h. ((cc), (cc), (cc)))) word other _ w o h k refl refl
one_word word other (Load Lhu rd rs1 imm) w o h k some = by_line _ (i_line 0x03 5 (Load Lhu) (λ a b c d e f h. ((cc), (cc), (cc)))) word other _ w o h k refl refl
one_word word other (Store Sb rs1 rs2 imm) w o h k some = by_line _ (s_line 0x23 0 (Store Sb) (λ a b c d e f h. ((cc), (cc), (cc)))) word other _ w o h k refl refl
one_word word other (Store Sh rs1 rs2 imm) w o h k some = by_line _ (s_line 0x23 1 (Store Sh) (λ a b c d e f h. ((cc), (cc), (cc)))) word other _ w o h k refl refl
one_word word other (Store Sw rs1 rs2 imm) w o h k some = by_line _ (s_line 0x23 2 (Store Sw) (λ a b c d e f h. ((cc), (cc), (cc)))) word other _ w o h k refl refl
one_word word other (AluImm Add rd rs1 imm) w o h k some = by_line _ (i_line 0x13 0 (AluImm Add) (λ a b c d e f h. ((cc), (cc), (cc)))) word other _ w o h k refl refl
one_word word other (AluImm Slt rd rs1 imm) w o h k some = by_line _ (i_line 0x13 2 (AluImm Slt) (λ a b c d e f h. ((cc), (cc), (cc)))) word other _ w o h k refl refl
one_word word other (AluImm Sltu rd rs1 imm) w o h k some = by_line _ (i_line 0x13 3 (AluImm Sltu) (λ a b c d e f h. ((cc), (cc), (cc)))) word other _ w o h k refl refl
one_word word other (AluImm Xor rd rs1 imm) w o h k some = by_line _ (i_line 0x13 4 (AluImm Xor) (λ a b c d e f h. ((cc), (cc), (cc)))) word other _ w o h k refl refl
one_word word other (AluImm Or rd rs1 imm) w o h k some = by_line _ (i_line 0x13 6 (AluImm Or) (λ a b c d e f h. ((cc), (cc), (cc)))) word other _ w o h k refl refl
one_word word other (AluImm And rd rs1 imm) w o h k some = by_line _ (i_line 0x13 7 (AluImm And) (λ a b c d e f h. ((cc), (cc), (cc)))) word other _ w o h k refl refl
one_word word other (AluImm Sll rd rs1 imm) w o h k some = by_line _ (r_line 0x13 1 0 (AluImm Sll) (λ a b c d e f h. ((cc), (cc), (cc)))) word other _ w o h k refl refl
one_word word other (AluImm Srl rd rs1 imm) w o h k some = by_line _ (r_line 0x13 5 0 (AluImm Srl) (λ a b c d e f h. ((cc), (cc), (cc)))) word other _ w o h k refl refl
one_word word other (AluImm Sra rd rs1 imm) w o h k some = by_line _ (r_line 0x13 5 32 (AluImm Sra) (λ a b c d e f h. ((cc), (cc), (cc)))) word other _ w o h k refl refl
one_word word other (Alu Add rd rs1 rs2) w o h k some = by_line _ (r_line 0x33 0 0 (Alu Add) (λ a b c d e f h. ((cc), (cc), (cc)))) word other _ w o h k refl refl
one_word word other (Alu Sub rd rs1 rs2) w o h k some = by_line _ (r_line 0x33 0 32 (Alu Sub) (λ a b c d e f h. ((cc), (cc), (cc)))) word other _ w o h k refl refl
one_word word other (Alu Sll rd rs1 rs2) w o h k some = by_line _ (r_line 0x33 1 0 (Alu Sll) (λ a b c d e f h. ((cc), (cc), (cc)))) word other _ w o h k refl refl
one_word word other (Alu Slt rd rs1 rs2) w o h k some = by_line _ (r_line 0x33 2 0 (Alu Slt) (λ a b c d e f h. ((cc), (cc), (cc)))) word other _ w o h k refl refl
one_word word other (Alu Sltu rd rs1 rs2) w o h k some = by_line _ (r_line 0x33 3 0 (Alu Sltu) (λ a b c d e f h. ((cc), (cc), (cc)))) word other _ w o h k refl refl
one_word word other (Alu Xor rd rs1 rs2) w o h k some = by_line _ (r_line 0x33 4 0 (Alu Xor) (λ a b c d e f h. ((cc), (cc), (cc)))) word other _ w o h k refl refl
one_word word other (Alu Srl rd rs1 rs2) w o h k some = by_line _ (r_line 0x33 5 0 (Alu Srl) (λ a b c d e f h. ((cc), (cc), (cc)))) word other _ w o h k refl refl
one_word word other (Alu Sra rd rs1 rs2) w o h k some = by_line _ (r_line 0x33 5 32 (Alu Sra) (λ a b c d e f h. ((cc), (cc), (cc)))) word other _ w o h k refl refl
one_word word other (Alu Or rd rs1 rs2) w o h k some = by_line _ (r_line 0x33 6 0 (Alu Or) (λ a b c d e f h. ((cc), (cc), (cc)))) word other _ w o h k refl refl
one_word word other (Alu And rd rs1 rs2) w o h k some = by_line _ (r_line 0x33 7 0 (Alu And) (λ a b c d e f h. ((cc), (cc), (cc)))) word other _ w o h k refl refl
one_word word other (MulDiv Mul rd rs1 rs2) w o h k some = by_line _ (r_line 0x33 0 1 (MulDiv Mul) (λ a b c d e f h. ((cc), (cc), (cc)))) word other _ w o h k refl refl
one_word word other (MulDiv Mulh rd rs1 rs2) w o h k some = by_line _ (r_line 0x33 1 1 (MulDiv Mulh) (λ a b c d e f h. ((cc), (cc), (cc)))) word other _ w o h k refl refl
one_word word other (MulDiv Mulhsu rd rs1 rs2) w o h k some = by_line _ (r_line 0x33 2 1 (MulDiv Mulhsu) (λ a b c d e f h. ((cc), (cc), (cc)))) word other _ w o h k refl refl
one_word word other (MulDiv Mulhu rd rs1 rs2) w o h k some = by_line _ (r_line 0x33 3 1 (MulDiv Mulhu) (λ a b c d e f h. ((cc), (cc), (cc)))) word other _ w o h k refl refl
one_word word other (MulDiv Div rd rs1 rs2) w o h k some = by_line _ (r_line 0x33 4 1 (MulDiv Div) (λ a b c d e f h. ((cc), (cc), (cc)))) word other _ w o h k refl refl
one_word word other (MulDiv Divu rd rs1 rs2) w o h k some = by_line _ (r_line 0x33 5 1 (MulDiv Divu) (λ a b c d e f h. ((cc), (cc), (cc)))) word other _ w o h k refl refl
one_word word other (MulDiv Rem rd rs1 rs2) w o h k some = by_line _ (r_line 0x33 6 1 (MulDiv Rem) (λ a b c d e f h. ((cc), (cc), (cc)))) word other _ w o h k refl refl
one_word word other (MulDiv Remu rd rs1 rs2) w o h k some = by_line _ (r_line 0x33 7 1 (MulDiv Remu) (λ a b c d e f h. ((cc), (cc), (cc)))) word other _ w o h k refl refl
one_word word other Fence w o h k some = absurd (some refl)
one_word word other (Terminate code) w o h k some = by_line _ terminate_line word other _ w o h k refl refl
one_word word other (HintStore base imm) w o h k some = by_line _ hint_line word other _ w o h k refl refl
one_word word other (Reveal base rs1 imm) w o h k some = by_line _ (i_line 0x0b 2 Reveal (λ a b c d e f h. ((cc), (cc), (cc)))) word other _ w o h k refl refl
one_word word other (ShaBlock state block) w o h k some = by_line _ sha_line word other _ w o h k refl refl
one_word word other (AluImm Sub rd rs1 imm) w o h k some = absurd (no_line word (AluImm Sub rd rs1 imm) h refl)
