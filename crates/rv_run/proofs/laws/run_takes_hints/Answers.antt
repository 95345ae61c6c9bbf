use Rattle.rv_run.proofs.HintsTaken.{run_takes_hints}
use Rattle.rv_run.proofs.laws.run_takes_hints.Goals as goal

pub returns : goal.returns
returns c = run_takes_hints
