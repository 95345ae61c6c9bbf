use Rattle.vm_transpile.proofs.Texts.{program_rises}
use Rattle.vm_transpile.proofs.laws.rows_rise.Goals as goal

pub returns : goal.returns
returns c = program_rises
