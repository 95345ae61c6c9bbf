-- The results of operations on words (RISC-V Unprivileged ISA 20191213, the section beside each).
use Rattle.std.specs.Prelude.{ℕ, ◌-◌, ◌%◌, Bool, ◌==◌, not, nat_lt, if◌then◌else◌, bit_and, bit_or, bit_xor}
use Rattle.vm_word.specs.declared.operation.AluOp.{AluOp}
use Rattle.vm_word.specs.declared.operation.AluOp.TheVariants.{Add, Sub, Sll, Slt, Sltu, Xor, Srl, Sra, Or, And}
use Rattle.vm_word.specs.declared.operation.BranchKind.{BranchKind}
use Rattle.vm_word.specs.declared.operation.BranchKind.TheVariants.{Beq, Bne, Blt, Bge, Bltu, Bgeu}
use Rattle.vm_word.specs.declared.operation.LoadKind.{LoadKind}
use Rattle.vm_word.specs.declared.operation.LoadKind.TheVariants.{Lb, Lh, Lw, Lbu, Lhu}
use Rattle.vm_word.specs.declared.operation.MulDivOp.{MulDivOp}
use Rattle.vm_word.specs.declared.operation.MulDivOp.TheVariants.{Mul, Mulh, Mulhsu, Mulhu, Div, Divu, Rem, Remu}
use Rattle.vm_word.specs.declared.operation.StoreKind.{StoreKind}
use Rattle.vm_word.specs.declared.operation.StoreKind.TheVariants.{Sb, Sh, Sw}
use Rattle.vm_word.specs.Arithmetic.{word_sum, word_difference, sign_extended, signed_less, shifted_left, shifted_right, shifted_right_signed, low_product, high_product, high_product_signed, high_product_mixed, quotient, quotient_signed, remainder, remainder_signed}

abbrev pub word_of_test : Bool → ℕ
word_of_test b = if b then 1 else 0

-- 2.4: the low five bits of the second word are a shift's amount
abbrev pub alu_result : AluOp → ℕ → ℕ → ℕ
alu_result Add a b = word_sum a b
alu_result Sub a b = word_difference a b
alu_result Sll a b = shifted_left a (b % 32)
alu_result Slt a b = word_of_test (signed_less a b)
alu_result Sltu a b = word_of_test (nat_lt a b)
alu_result Xor a b = bit_xor a b
alu_result Srl a b = shifted_right a (b % 32)
alu_result Sra a b = shifted_right_signed a (b % 32)
alu_result Or a b = bit_or a b
alu_result And a b = bit_and a b

-- 7.1 and 7.2
abbrev pub mul_div_result : MulDivOp → ℕ → ℕ → ℕ
mul_div_result Mul a b = low_product a b
mul_div_result Mulh a b = high_product_signed a b
mul_div_result Mulhsu a b = high_product_mixed a b
mul_div_result Mulhu a b = high_product a b
mul_div_result Div a b = quotient_signed a b
mul_div_result Divu a b = quotient a b
mul_div_result Rem a b = remainder_signed a b
mul_div_result Remu a b = remainder a b

-- 2.5: whether a branch is taken
abbrev pub branch_holds : BranchKind → ℕ → ℕ → Bool
branch_holds Beq a b = a == b
branch_holds Bne a b = not (a == b)
branch_holds Blt a b = signed_less a b
branch_holds Bge a b = not (signed_less a b)
branch_holds Bltu a b = nat_lt a b
branch_holds Bgeu a b = not (nat_lt a b)

-- 2.5: where JALR leads; bit 0 of the sum is cleared
abbrev pub jump_target : ℕ → ℕ → ℕ
jump_target base imm = word_sum base imm - word_sum base imm % 2

-- 2.6: how many bytes are read and written
abbrev pub load_width : LoadKind → ℕ
load_width Lb = 1
load_width Lh = 2
load_width Lw = 4
load_width Lbu = 1
load_width Lhu = 2

abbrev pub store_width : StoreKind → ℕ
store_width Sb = 1
store_width Sh = 2
store_width Sw = 4

-- 2.6: the number that was read, as a word
abbrev pub load_extended : LoadKind → ℕ → ℕ
load_extended Lb number = sign_extended 8 number
load_extended Lh number = sign_extended 16 number
load_extended Lw number = number
load_extended Lbu number = number
load_extended Lhu number = number
