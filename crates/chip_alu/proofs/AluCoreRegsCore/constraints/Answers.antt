use Rattle.chip_alu.proofs.Parts.{length-alu}
use Rattle.chip_alu.proofs.AluCoreRegsCore.constraints.Goals as goal

pub returns-clause-number : goal.returns-clause-number
returns-clause-number c o flags own = length-alu o
