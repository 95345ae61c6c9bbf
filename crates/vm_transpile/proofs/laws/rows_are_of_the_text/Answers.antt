use Rattle.vm_transpile.proofs.Texts.{rows_of_text}
use Rattle.vm_transpile.proofs.laws.rows_are_of_the_text.Goals as goal

pub returns : goal.returns
returns c = rows_of_text
