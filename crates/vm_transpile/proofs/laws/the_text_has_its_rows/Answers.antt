use Rattle.vm_transpile.proofs.Texts.{text_has_rows}
use Rattle.vm_transpile.proofs.laws.the_text_has_its_rows.Goals as goal

pub returns : goal.returns
returns c = text_has_rows
