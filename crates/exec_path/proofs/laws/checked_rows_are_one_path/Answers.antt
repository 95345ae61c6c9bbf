use Rattle.exec_path.proofs.PathLemmas.{checked_path}
use Rattle.exec_path.proofs.laws.checked_rows_are_one_path.Goals as goal

pub returns : goal.returns
returns c = checked_path
