use Rattle.table_format.proofs.ExactFile.{spelled_once}
use Rattle.table_format.proofs.laws.a_file_has_one_spelling.Goals as goal

pub returns : goal.returns
returns c = spelled_once
