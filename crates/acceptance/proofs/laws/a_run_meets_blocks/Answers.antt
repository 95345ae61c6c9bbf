use Rattle.acceptance.proofs.BlockRun.{run_meets_blocks}
use Rattle.acceptance.proofs.laws.a_run_meets_blocks.Goals as goal

pub returns : goal.returns
returns c = run_meets_blocks
