use Rattle.table_format.proofs.Parts.{parts_given}
use Rattle.table_format.proofs.laws.parts_are_the_file.Goals as goal

pub returns : goal.returns
returns c = parts_given
