-- Program rows and their instructions.
use Rattle.std.proofs.Common.{◌≡◌, ℕ, Bool, true, false, List, [], ◌∷◌, length, slice_index, refl, sym, ◌∙◌, arith}
use Rattle.vm_isa.specs.declared.instr.VmInstr.{VmInstr}
use Rattle.vm_isa.specs.Instr.{InRange, numbers_of, bit_of}
use Rattle.vm_isa.specs.Opcodes.{NOP}

-- a word is its four bytes
pub four : (xs : List ℕ) → length xs ≡ 4 → slice_index xs 0 ∷ slice_index xs 1 ∷ slice_index xs 2 ∷ slice_index xs 3 ∷ [] ≡ xs
four [] h = absurd (omega arith)
four (a ∷ []) h = absurd (omega arith)
four (a ∷ b ∷ []) h = absurd (omega arith)
four (a ∷ b ∷ c ∷ []) h = absurd (omega arith)
four (a ∷ b ∷ c ∷ d ∷ []) h = refl
four (a ∷ b ∷ c ∷ d ∷ e ∷ xs) h = absurd (omega arith)

bit_of-same : (a b : Bool) → bit_of a ≡ bit_of b → a ≡ b
bit_of-same true true h = refl
bit_of-same false false h = refl
bit_of-same true false h = absurd (omega arith)
bit_of-same false true h = absurd (omega arith)

instr_by : ℕ → ℕ → ℕ → ℕ → ℕ → Bool → Bool → List ℕ → ℕ → VmInstr
instr_by pc op rd rs1 rs2 write use_imm imm target =
    record { pc = pc; op = op; rd = rd; rs1 = rs1; rs2 = rs2; write = write; use_imm = use_imm; imm = imm; target = target }

instr_by-fields : (i : VmInstr) → instr_by i.pc i.op i.rd i.rs1 i.rs2 i.write i.use_imm i.imm i.target ≡ i
unfolding instr_by
instr_by-fields i = refl

instr_same : (i j : VmInstr) → i.pc ≡ j.pc → i.op ≡ j.op → i.rd ≡ j.rd → i.rs1 ≡ j.rs1 → i.rs2 ≡ j.rs2 → i.write ≡ j.write → i.use_imm ≡ j.use_imm → i.imm ≡ j.imm → i.target ≡ j.target → i ≡ j
instr_same i j a b c d e f g h k = let x = instr_by-fields i in let y = instr_by-fields j in cc

-- the numbers of a row tell the instruction
pub numbers_of-same : (i j : VmInstr) → length i.imm ≡ 4 → length j.imm ≡ 4 → numbers_of i ≡ numbers_of j → i ≡ j
unfolding numbers_of
numbers_of-same i j p q e =
    let limbs : slice_index i.imm 0 ∷ slice_index i.imm 1 ∷ slice_index i.imm 2 ∷ slice_index i.imm 3 ∷ [] ≡ slice_index j.imm 0 ∷ slice_index j.imm 1 ∷ slice_index j.imm 2 ∷ slice_index j.imm 3 ∷ [] = cc in
    let write : bit_of i.write ≡ bit_of j.write = cc in
    let use_imm : bit_of i.use_imm ≡ bit_of j.use_imm = cc in
    instr_same i j (cc) (cc) (cc) (cc) (cc) (bit_of-same i.write j.write write) (bit_of-same i.use_imm j.use_imm use_imm) (sym (four i.imm p) ∙ limbs ∙ four j.imm q) (cc)

-- the row of a no-operation has its pc and its opcode alone
pub numbers_of-nop : (i : VmInstr) → InRange i → i.op ≡ NOP → numbers_of i ≡ i.pc ∷ NOP ∷ 0 ∷ 0 ∷ 0 ∷ 0 ∷ 0 ∷ 0 ∷ 0 ∷ 0 ∷ 0 ∷ 0 ∷ []
unfolding numbers_of
numbers_of-nop i r e =
    let f = r.nop e in
    rw (e, f.0, f.1, f.2, f.3, f.4, f.5, f.6) refl
