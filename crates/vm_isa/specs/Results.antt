-- What opcodes make of words: the operations that they stand for.
use Rattle.std.specs.Prelude.{ℕ, ◌+◌, Bool, nat_eq, if◌then◌else◌, List, ◌++◌, take, drop}
use Rattle.vm_word.specs.Word.{word_of_limbs}
use Rattle.vm_word.specs.declared.operation.AluOp.{AluOp}
use Rattle.vm_word.specs.declared.operation.AluOp.TheVariants.{Add, Sub, Xor, Or, And, Slt, Sltu, Sll, Srl, Sra}
use Rattle.vm_word.specs.declared.operation.BranchKind.{BranchKind}
use Rattle.vm_word.specs.declared.operation.BranchKind.TheVariants.{Beq, Bne, Blt, Bltu, Bge, Bgeu}
use Rattle.vm_word.specs.declared.operation.LoadKind.{LoadKind}
use Rattle.vm_word.specs.declared.operation.LoadKind.TheVariants.{Lb, Lh, Lw, Lbu, Lhu}
use Rattle.vm_word.specs.declared.operation.MulDivOp.{MulDivOp}
use Rattle.vm_word.specs.declared.operation.MulDivOp.TheVariants.{Mul, Mulh, Mulhsu, Mulhu, Div, Divu, Rem, Remu}
use Rattle.vm_word.specs.declared.operation.StoreKind.{StoreKind}
use Rattle.vm_word.specs.declared.operation.StoreKind.TheVariants.{Sb, Sh, Sw}
use Rattle.vm_word.specs.Operations.{alu_result, branch_holds, load_extended, load_width, mul_div_result, store_width}
use Rattle.vm_isa.specs.Opcodes.{is_alu, is_load, ADD, SUB, XOR, OR, AND, SLT, SLTU, SLL, SRL, MUL, MULH, MULHSU, MULHU, DIV, DIVU, REM, BEQ, BNE, BLT, BLTU, BGE, LB, LH, LW, LBU, SB, SH}

-- ---- the operations of opcodes

-- ADD to SRA
abbrev pub alu_op : ℕ → AluOp
alu_op op =
    if nat_eq op ADD then Add
    else if nat_eq op SUB then Sub
    else if nat_eq op XOR then Xor
    else if nat_eq op OR then Or
    else if nat_eq op AND then And
    else if nat_eq op SLT then Slt
    else if nat_eq op SLTU then Sltu
    else if nat_eq op SLL then Sll
    else if nat_eq op SRL then Srl
    else Sra

-- MUL to REMU
abbrev pub mul_div_op : ℕ → MulDivOp
mul_div_op op =
    if nat_eq op MUL then Mul
    else if nat_eq op MULH then Mulh
    else if nat_eq op MULHSU then Mulhsu
    else if nat_eq op MULHU then Mulhu
    else if nat_eq op DIV then Div
    else if nat_eq op DIVU then Divu
    else if nat_eq op REM then Rem
    else Remu

-- BEQ to BGEU
abbrev pub branch_kind : ℕ → BranchKind
branch_kind op =
    if nat_eq op BEQ then Beq
    else if nat_eq op BNE then Bne
    else if nat_eq op BLT then Blt
    else if nat_eq op BLTU then Bltu
    else if nat_eq op BGE then Bge
    else Bgeu

-- LB to LHU
abbrev pub load_kind : ℕ → LoadKind
load_kind op =
    if nat_eq op LB then Lb
    else if nat_eq op LH then Lh
    else if nat_eq op LW then Lw
    else if nat_eq op LBU then Lbu
    else Lhu

-- SB to SW
abbrev pub store_kind : ℕ → StoreKind
store_kind op =
    if nat_eq op SB then Sb
    else if nat_eq op SH then Sh
    else Sw

-- ---- what they make of words

unfoldable pub alu : ℕ → ℕ → ℕ → ℕ
alu op a b = alu_result (alu_op op) a b

unfoldable pub mul_div : ℕ → ℕ → ℕ → ℕ
mul_div op a b = mul_div_result (mul_div_op op) a b

-- the word that an opcode of the register form makes of two
unfoldable pub result : ℕ → ℕ → ℕ → ℕ
result op a b = if is_alu op then alu op a b else mul_div op a b

-- whether a branch is taken
unfoldable pub is_taken : ℕ → ℕ → ℕ → Bool
is_taken op a b = branch_holds (branch_kind op) a b

-- how many bytes a load or a store has
unfoldable pub width_of : ℕ → ℕ
width_of op = if is_load op then load_width (load_kind op) else store_width (store_kind op)

-- the number that was loaded, as a word
unfoldable pub extended : ℕ → ℕ → ℕ
extended op number = load_extended (load_kind op) number

-- the number that the bytes of a block from this place on make
unfoldable pub number_in : List ℕ → ℕ → ℕ → ℕ
number_in block from width = word_of_limbs (take width (drop from block))

-- a block with the low bytes of another put at this place
unfoldable pub with_low : List ℕ → ℕ → ℕ → List ℕ → List ℕ
with_low block from width bytes = take from block ++ take width bytes ++ drop (from + width) block
