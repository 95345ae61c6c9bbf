use Rattle.vm_transpile.proofs.RunsAlike.{runs_end_alike}
use Rattle.vm_transpile.proofs.laws.runs_end_alike.Goals as goal

pub returns : goal.returns
returns c = runs_end_alike
