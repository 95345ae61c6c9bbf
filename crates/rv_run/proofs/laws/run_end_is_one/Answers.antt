use Rattle.rv_run.proofs.Runs.{run_end_is_one}
use Rattle.rv_run.proofs.laws.run_end_is_one.Goals as goal

pub returns : goal.returns
returns c = run_end_is_one
