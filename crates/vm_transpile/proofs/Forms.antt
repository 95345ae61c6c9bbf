-- The rows of each form are in range.
use Rattle.std.proofs.Common.{◌≡◌, ℕ, ◌%◌, ◌^◌, ◌<◌, ◌==◌, Bool, true, false, cond, refl, arith, rules}
use Rattle.std.proofs.lemmas.Bool.Decides.{nat_tests}
use Rattle.vm_word.specs.declared.operation.AluOp.{AluOp}
use Rattle.vm_word.specs.declared.operation.AluOp.TheVariants.{Add}
use Rattle.vm_word.specs.declared.operation.BranchKind.{BranchKind}
use Rattle.vm_word.specs.declared.operation.BranchKind.TheVariants.{Beq}
use Rattle.vm_word.specs.declared.operation.LoadKind.{LoadKind}
use Rattle.vm_word.specs.declared.operation.LoadKind.TheVariants.{Lb}
use Rattle.vm_word.specs.declared.operation.MulDivOp.{MulDivOp}
use Rattle.vm_word.specs.declared.operation.MulDivOp.TheVariants.{Mul}
use Rattle.vm_word.specs.declared.operation.StoreKind.{StoreKind}
use Rattle.vm_word.specs.declared.operation.StoreKind.TheVariants.{Sb}
use Rattle.rv_decode.specs.declared.instr.Instr.{Instr}
use Rattle.rv_decode.specs.declared.instr.Instr.TheVariants.{Lui, Auipc, Jal, Jalr, Branch, Load, Store, AluImm, Alu, MulDiv, Fence, Terminate, HintStore, Reveal, ShaBlock}
use Rattle.rv_decode.specs.Ranges.{HasFieldsInRange}
use Rattle.vm_isa.specs.declared.instr.VmInstr.{VmInstr}
use Rattle.vm_isa.specs.declared.opcode.TheConstants.{LUI, JALR, AUIPC}
use Rattle.vm_isa.specs.Instr.{InRange}
use Rattle.vm_isa.specs.Opcodes.{is_alu, is_load, is_store, is_branch, is_upper, is_mul}
use Rattle.vm_transpile.specs.Rows.{alu_opcode, load_opcode, store_opcode, branch_opcode, mul_div_opcode, target_of, nop_row, register_form, immediate_form, upper_form, load_form, jal_row, store_form, branch_form, hint_row, reveal_row, sha_row, terminate_row, row_of}

alu_opcode-group : (op : AluOp) → is_alu (alu_opcode op) ≡ true
alu_opcode-group Add = refl
alu_opcode-group _ = refl

load_opcode-group : (kind : LoadKind) → is_load (load_opcode kind) ≡ true
load_opcode-group Lb = refl
load_opcode-group _ = refl

store_opcode-group : (kind : StoreKind) → is_store (store_opcode kind) ≡ true
store_opcode-group Sb = refl
store_opcode-group _ = refl

branch_opcode-group : (kind : BranchKind) → is_branch (branch_opcode kind) ≡ true
branch_opcode-group Beq = refl
branch_opcode-group _ = refl

mul_div_opcode-group : (op : MulDivOp) → is_mul (mul_div_opcode op) ≡ true
mul_div_opcode-group Mul = refl
mul_div_opcode-group _ = refl

target-low : (pc offset : ℕ) → target_of pc offset < 2 ^ 29
target-low pc offset = grind (arith, nat_tests)

module _ (pc : ℕ) (aligned : pc % 4 ≡ 0) (low : pc < 2 ^ 29) where
  nop_in_range : InRange (nop_row pc)
  nop_in_range = search rules

  or_nop_by : (row : VmInstr) (b : Bool) → InRange row → row.pc ≡ pc → InRange (cond b (nop_row row.pc) row)
  or_nop_by row true h is = rw is nop_in_range
  or_nop_by row false h is = h

  register_in_range : (op rd rs1 rs2 : ℕ) → is_alu op ≡ true → rd < 32 → rs1 < 32 → rs2 < 32 → InRange (register_form pc op rd rs1 rs2)
  register_in_range op rd rs1 rs2 group d s t = or_nop_by _ (rd == 0) (search rules) refl

  mul_div_in_range : (op rd rs1 rs2 : ℕ) → is_mul op ≡ true → rd < 32 → rs1 < 32 → rs2 < 32 → InRange (register_form pc op rd rs1 rs2)
  mul_div_in_range op rd rs1 rs2 group d s t = or_nop_by _ (rd == 0) (search rules) refl

  immediate_in_range : (op rd rs1 imm : ℕ) → is_alu op ≡ true → rd < 32 → rs1 < 32 → InRange (immediate_form pc op rd rs1 imm)
  immediate_in_range op rd rs1 imm group d s = or_nop_by _ (rd == 0) (search rules) refl

  upper_in_range : (op rd imm : ℕ) → is_upper op ≡ true → rd < 32 → InRange (upper_form pc op rd imm)
  upper_in_range op rd imm group d = or_nop_by _ (rd == 0) (search rules) refl

  load_in_range : (op rd rs1 imm : ℕ) → is_load op ≡ true → rd < 32 → rs1 < 32 → InRange (load_form pc op rd rs1 imm)
  load_in_range op rd rs1 imm group d s = search rules

  jalr_in_range : (rd rs1 imm : ℕ) → rd < 32 → rs1 < 32 → InRange (load_form pc JALR rd rs1 imm)
  jalr_in_range rd rs1 imm d s = search rules

  jal_in_range : (rd offset : ℕ) → rd < 32 → InRange (jal_row pc rd offset)
  jal_in_range rd offset d = let near = target-low pc offset in search rules

  store_in_range : (op rs1 rs2 imm : ℕ) → is_store op ≡ true → rs1 < 32 → rs2 < 32 → InRange (store_form pc op rs1 rs2 imm)
  store_in_range op rs1 rs2 imm group s t = search rules

  branch_in_range : (op rs1 rs2 offset : ℕ) → is_branch op ≡ true → rs1 < 32 → rs2 < 32 → InRange (branch_form pc op rs1 rs2 offset)
  branch_in_range op rs1 rs2 offset group s t = let near = target-low pc offset in search rules

  hint_in_range : (base imm : ℕ) → base < 32 → InRange (hint_row pc base imm)
  hint_in_range base imm d = search rules

  reveal_in_range : (base rs1 imm : ℕ) → base < 32 → rs1 < 32 → InRange (reveal_row pc base rs1 imm)
  reveal_in_range base rs1 imm d s = search rules

  sha_in_range : (state block : ℕ) → state < 32 → block < 32 → InRange (sha_row pc state block)
  sha_in_range state block d s = search rules

  terminate_in_range : (code : ℕ) → code < 256 → InRange (terminate_row pc code)
  terminate_in_range code byte = search rules

  -- the row of an instruction whose fields are in their ranges
  pub row_of-in_range : (instr : Instr) → HasFieldsInRange instr → InRange (row_of pc instr)
  row_of-in_range (Lui rd imm) h = upper_in_range LUI rd imm refl h.0
  row_of-in_range (Auipc rd imm) h = upper_in_range AUIPC rd imm refl h.0
  row_of-in_range (Jal rd offset) h = jal_in_range rd offset h.0
  row_of-in_range (Jalr rd rs1 imm) h = jalr_in_range rd rs1 imm h.0 h.1
  row_of-in_range (Branch kind rs1 rs2 offset) h = branch_in_range (branch_opcode kind) rs1 rs2 offset (branch_opcode-group kind) h.0 h.1
  row_of-in_range (Load kind rd rs1 imm) h = load_in_range (load_opcode kind) rd rs1 imm (load_opcode-group kind) h.0 h.1
  row_of-in_range (Store kind rs1 rs2 imm) h = store_in_range (store_opcode kind) rs1 rs2 imm (store_opcode-group kind) h.0 h.1
  row_of-in_range (AluImm op rd rs1 imm) h = immediate_in_range (alu_opcode op) rd rs1 imm (alu_opcode-group op) h.0 h.1
  row_of-in_range (Alu op rd rs1 rs2) h = register_in_range (alu_opcode op) rd rs1 rs2 (alu_opcode-group op) h.0 h.1 h.2
  row_of-in_range (MulDiv op rd rs1 rs2) h = mul_div_in_range (mul_div_opcode op) rd rs1 rs2 (mul_div_opcode-group op) h.0 h.1 h.2
  row_of-in_range Fence h = nop_in_range
  row_of-in_range (Terminate code) h = terminate_in_range code h
  row_of-in_range (HintStore base imm) h = hint_in_range base imm h.0
  row_of-in_range (Reveal base rs1 imm) h = reveal_in_range base rs1 imm h.0 h.1
  row_of-in_range (ShaBlock state block) h = sha_in_range state block h.0 h.1
