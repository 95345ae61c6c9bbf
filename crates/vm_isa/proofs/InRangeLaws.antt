-- Instructions in range, an opcode or a group of them at a time: what a row has to have beside numbers
-- that fit.
use Rattle.std.proofs.Common.{◌≡◌, ◌%◌, ◌^◌, ◌<◌, true, false, rules}
use Rattle.vm_isa.specs.declared.instr.VmInstr.{VmInstr}
use Rattle.vm_isa.specs.Words.{IsWord}
use Rattle.vm_isa.specs.Opcodes.{is_alu, is_load, is_store, is_branch, is_upper, is_mul, JAL, JALR, HINT, REVEAL, NOP, SHA, TERMINATE}
use Rattle.vm_isa.specs.Instr.{InRange, NoImm, ExitCode}

-- what is asked of every row
pub record Fits (i : VmInstr) : Type 0 where
  pub aligned : i.pc % 4 ≡ 0
  pub low : i.pc < 2 ^ 29
  pub rd : i.rd < 32
  pub rs1 : i.rs1 < 32
  pub rs2 : i.rs2 < 32
  pub imm : IsWord i.imm
  pub target : i.target < 2 ^ 29

module _ (i : VmInstr) (fits : Fits i) where
  pub alu_in_range : is_alu i.op ≡ true → i.write ≡ true → i.target ≡ 0 → InRange i
  alu_in_range group write target = search rules

  pub mul_in_range : is_mul i.op ≡ true → i.write ≡ true → i.use_imm ≡ false → NoImm i → i.target ≡ 0 → InRange i
  mul_in_range group write use_imm imm target = search rules

  pub load_in_range : is_load i.op ≡ true → i.rs2 ≡ 0 → i.use_imm ≡ false → i.target ≡ 0 → InRange i
  load_in_range group rs2 use_imm target = search rules

  pub store_in_range : is_store i.op ≡ true → i.rd ≡ 0 → i.write ≡ false → i.use_imm ≡ false → i.target ≡ 0 → InRange i
  store_in_range group rd write use_imm target = search rules

  pub branch_in_range : is_branch i.op ≡ true → i.rd ≡ 0 → i.write ≡ false → i.use_imm ≡ false → NoImm i → InRange i
  branch_in_range group rd write use_imm imm = search rules

  pub jal_in_range : i.op ≡ JAL → i.rs1 ≡ 0 → i.rs2 ≡ 0 → i.use_imm ≡ false → NoImm i → InRange i
  jal_in_range op rs1 rs2 use_imm imm = search rules

  pub upper_in_range : is_upper i.op ≡ true → i.rs1 ≡ 0 → i.rs2 ≡ 0 → i.write ≡ true → i.use_imm ≡ false → i.target ≡ 0 → InRange i
  upper_in_range group rs1 rs2 write use_imm target = search rules

  pub jalr_in_range : i.op ≡ JALR → i.rs2 ≡ 0 → i.use_imm ≡ false → i.target ≡ 0 → InRange i
  jalr_in_range op rs2 use_imm target = search rules

  pub hint_in_range : i.op ≡ HINT → i.rs1 ≡ 0 → i.rs2 ≡ 0 → i.write ≡ false → i.use_imm ≡ false → i.target ≡ 0 → InRange i
  hint_in_range op rs1 rs2 write use_imm target = search rules

  pub reveal_in_range : i.op ≡ REVEAL → i.rs2 ≡ 0 → i.write ≡ false → i.use_imm ≡ false → i.target ≡ 0 → InRange i
  reveal_in_range op rs2 write use_imm target = search rules

  pub nop_in_range : i.op ≡ NOP → i.rd ≡ 0 → i.rs1 ≡ 0 → i.rs2 ≡ 0 → i.write ≡ false → i.use_imm ≡ false → NoImm i → i.target ≡ 0 → InRange i
  nop_in_range op rd rs1 rs2 write use_imm imm target = search rules

  pub sha_in_range : i.op ≡ SHA → i.rs2 ≡ 0 → i.write ≡ false → i.use_imm ≡ false → NoImm i → i.target ≡ 0 → InRange i
  sha_in_range op rs2 write use_imm imm target = search rules

  pub terminate_in_range : i.op ≡ TERMINATE → i.rd ≡ 0 → i.rs1 ≡ 0 → i.rs2 ≡ 0 → i.write ≡ false → i.use_imm ≡ false → ExitCode i → i.target ≡ 0 → InRange i
  terminate_in_range op rd rs1 rs2 write use_imm code target = search rules
