use Rattle.acceptance.proofs.WholeSegment.{whole_run}
use Rattle.acceptance.proofs.laws.a_balanced_segment_is_one_run.Goals as goal

pub returns : goal.returns
returns c = whole_run
