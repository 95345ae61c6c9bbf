use Rattle.exec_path.proofs.PathLemmas.{rows_balance}
use Rattle.exec_path.proofs.laws.balanced_events_balance_rows.Goals as goal

pub returns : goal.returns
returns c = rows_balance
