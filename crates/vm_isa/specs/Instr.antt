-- The numbers of a program row, and which instructions can have one.
use Rattle.std.specs.Prelude.{◌≡◌, ℕ, ◌%◌, ◌^◌, ◌<◌, Bool, true, false, if◌then◌else◌, List, [], ◌∷◌, slice_index}
use Rattle.vm_isa.specs.declared.instr.VmInstr.{VmInstr}
use Rattle.vm_isa.specs.Words.{IsWord}
use Rattle.vm_isa.specs.Opcodes.{is_opcode, is_alu, is_load, is_store, is_branch, is_upper, is_mul, JAL, JALR, HINT, REVEAL, NOP, SHA, TERMINATE}

abbrev pub bit_of : Bool → ℕ
bit_of b = if b then 1 else 0

unfoldable pub numbers_of : VmInstr → List ℕ
numbers_of i =
    i.pc ∷ i.op ∷ i.rd ∷ i.rs1 ∷ i.rs2 ∷ bit_of i.write ∷ bit_of i.use_imm
    ∷ slice_index i.imm 0 ∷ slice_index i.imm 1 ∷ slice_index i.imm 2 ∷ slice_index i.imm 3 ∷ i.target ∷ []

abbrev pub NoImm : VmInstr → Type 0
NoImm i = i.imm ≡ 0 ∷ 0 ∷ 0 ∷ 0 ∷ []

-- an immediate of one byte
abbrev pub ExitCode : VmInstr → Type 0
ExitCode i = (code : ℕ) × (i.imm ≡ code ∷ 0 ∷ 0 ∷ 0 ∷ [])

-- An instruction is in range. A number that its opcode's rows do not name is 0; what an opcode
-- fixes is stated opcode by opcode, so that a further opcode is a further field and changes no other.
pub record InRange (i : VmInstr) : Type 0 where
  pub opcode : is_opcode i.op ≡ true
  pub aligned : i.pc % 4 ≡ 0
  pub low : i.pc < 2 ^ 29
  pub rd : i.rd < 32
  pub rs1 : i.rs1 < 32
  pub rs2 : i.rs2 < 32
  pub imm : IsWord i.imm
  pub target : i.target < 2 ^ 29
  pub alu : is_alu i.op ≡ true → (i.write ≡ true) × (i.target ≡ 0)
  pub load : is_load i.op ≡ true → (i.rs2 ≡ 0) × (i.use_imm ≡ false) × (i.target ≡ 0)
  pub store : is_store i.op ≡ true → (i.rd ≡ 0) × (i.write ≡ false) × (i.use_imm ≡ false) × (i.target ≡ 0)
  pub branch : is_branch i.op ≡ true → (i.rd ≡ 0) × (i.write ≡ false) × (i.use_imm ≡ false) × NoImm i
  pub jal : i.op ≡ JAL → (i.rs1 ≡ 0) × (i.rs2 ≡ 0) × (i.use_imm ≡ false) × NoImm i
  pub upper : is_upper i.op ≡ true → (i.rs1 ≡ 0) × (i.rs2 ≡ 0) × (i.write ≡ true) × (i.use_imm ≡ false) × (i.target ≡ 0)
  pub jalr : i.op ≡ JALR → (i.rs2 ≡ 0) × (i.use_imm ≡ false) × (i.target ≡ 0)
  pub mul : is_mul i.op ≡ true → (i.write ≡ true) × (i.use_imm ≡ false) × NoImm i × (i.target ≡ 0)
  pub hint : i.op ≡ HINT → (i.rs1 ≡ 0) × (i.rs2 ≡ 0) × (i.write ≡ false) × (i.use_imm ≡ false) × (i.target ≡ 0)
  pub reveal : i.op ≡ REVEAL → (i.rs2 ≡ 0) × (i.write ≡ false) × (i.use_imm ≡ false) × (i.target ≡ 0)
  pub nop : i.op ≡ NOP → (i.rd ≡ 0) × (i.rs1 ≡ 0) × (i.rs2 ≡ 0) × (i.write ≡ false) × (i.use_imm ≡ false) × NoImm i × (i.target ≡ 0)
  pub sha : i.op ≡ SHA → (i.rs2 ≡ 0) × (i.write ≡ false) × (i.use_imm ≡ false) × NoImm i × (i.target ≡ 0)
  pub terminate : i.op ≡ TERMINATE → (i.rd ≡ 0) × (i.rs1 ≡ 0) × (i.rs2 ≡ 0) × (i.write ≡ false) × (i.use_imm ≡ false) × ExitCode i × (i.target ≡ 0)

-- the numbers of an instruction in range
pub record IsInstruction (numbers : List ℕ) : Type 0 where
  pub instr : VmInstr
  pub in_range : InRange instr
  pub are : numbers ≡ numbers_of instr
