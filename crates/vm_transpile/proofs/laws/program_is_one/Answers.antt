use Rattle.vm_transpile.proofs.Texts.{one_program}
use Rattle.vm_transpile.proofs.laws.program_is_one.Goals as goal

pub returns : goal.returns
returns c = one_program
