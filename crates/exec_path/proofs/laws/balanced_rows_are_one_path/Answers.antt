use Rattle.exec_path.proofs.PathLemmas.{one_path}
use Rattle.exec_path.proofs.laws.balanced_rows_are_one_path.Goals as goal

pub returns : goal.returns
returns c = one_path
