-- The ranges of an instruction's fields.
use Rattle.std.specs.Prelude.{ℕ, ◌≡◌, ◌<◌, ◌%◌, ◌^◌}
use Rattle.vm_word.specs.declared.operation.AluOp.{AluOp}
use Rattle.vm_word.specs.declared.operation.AluOp.TheVariants.{Add, Sub, Sll, Slt, Sltu, Xor, Srl, Sra, Or, And}
use Rattle.rv_decode.specs.declared.instr.Instr.{Instr}
use Rattle.rv_decode.specs.declared.instr.Instr.TheVariants.{Lui, Auipc, Jal, Jalr, Branch, Load, Store, AluImm, Alu, MulDiv, Fence, Terminate, HintStore, Reveal, ShaBlock}

abbrev pub IsRegister : ℕ → Type 0
IsRegister number = number < 32

abbrev pub IsWord : ℕ → Type 0
IsWord number = number < 2 ^ 32

-- where an instruction may lead, counted from its own address
abbrev pub IsOffset : ℕ → Type 0
IsOffset number = (number < 2 ^ 32) × (number % 2 ≡ 0)

-- the immediate of an operation: an amount below 32 for a shift, a word for the others; Sub has none
abbrev pub IsOperandOf : AluOp → ℕ → Type 0
IsOperandOf Sub imm = ⊥
IsOperandOf Sll imm = imm < 32
IsOperandOf Srl imm = imm < 32
IsOperandOf Sra imm = imm < 32
IsOperandOf Add imm = IsWord imm
IsOperandOf Slt imm = IsWord imm
IsOperandOf Sltu imm = IsWord imm
IsOperandOf Xor imm = IsWord imm
IsOperandOf Or imm = IsWord imm
IsOperandOf And imm = IsWord imm

abbrev pub HasFieldsInRange : Instr → Type 0
HasFieldsInRange (Lui rd imm) = IsRegister rd × IsWord imm
HasFieldsInRange (Auipc rd imm) = IsRegister rd × IsWord imm
HasFieldsInRange (Jal rd offset) = IsRegister rd × IsOffset offset
HasFieldsInRange (Jalr rd rs1 imm) = IsRegister rd × IsRegister rs1 × IsWord imm
HasFieldsInRange (Branch kind rs1 rs2 offset) = IsRegister rs1 × IsRegister rs2 × IsOffset offset
HasFieldsInRange (Load kind rd rs1 imm) = IsRegister rd × IsRegister rs1 × IsWord imm
HasFieldsInRange (Store kind rs1 rs2 imm) = IsRegister rs1 × IsRegister rs2 × IsWord imm
HasFieldsInRange (AluImm op rd rs1 imm) = IsRegister rd × IsRegister rs1 × IsOperandOf op imm
HasFieldsInRange (Alu op rd rs1 rs2) = IsRegister rd × IsRegister rs1 × IsRegister rs2
HasFieldsInRange (MulDiv op rd rs1 rs2) = IsRegister rd × IsRegister rs1 × IsRegister rs2
HasFieldsInRange Fence = Unit {0}
HasFieldsInRange (Terminate code) = code < 256
HasFieldsInRange (HintStore base imm) = IsRegister base × IsWord imm
HasFieldsInRange (Reveal base rs1 imm) = IsRegister base × IsRegister rs1 × IsWord imm
HasFieldsInRange (ShaBlock state block) = IsRegister state × IsRegister block
