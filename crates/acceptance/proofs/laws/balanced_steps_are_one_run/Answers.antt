use Rattle.acceptance.proofs.WholeSegment.{one_run}
use Rattle.acceptance.proofs.laws.balanced_steps_are_one_run.Goals as goal

pub returns : goal.returns
returns c = one_run
