use Rattle.vm_transpile.proofs.RunsAlike.{runs_go_back}
use Rattle.vm_transpile.proofs.laws.runs_go_back.Goals as goal

pub returns : goal.returns
returns c = runs_go_back
