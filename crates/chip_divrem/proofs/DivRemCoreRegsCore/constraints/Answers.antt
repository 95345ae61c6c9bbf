use Rattle.chip_divrem.proofs.Parts.{length-constraints}
use Rattle.chip_divrem.proofs.DivRemCoreRegsCore.constraints.Goals as goal

pub returns-clause-number : goal.returns-clause-number
returns-clause-number c o flags own = length-constraints o
