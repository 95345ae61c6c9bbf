use Rattle.exec_path.proofs.PathLemmas.{row_balances}
use Rattle.exec_path.proofs.laws.a_row_balances.Goals as goal

pub returns : goal.returns
returns c = row_balances
