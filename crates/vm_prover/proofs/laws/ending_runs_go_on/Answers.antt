use Rattle.vm_prover.proofs.EndLemmas.{ending_runs_go_on}
use Rattle.vm_prover.proofs.laws.ending_runs_go_on.Goals as goal

pub returns : goal.returns
returns c = ending_runs_go_on
