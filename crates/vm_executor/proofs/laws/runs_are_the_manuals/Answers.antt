use Rattle.vm_executor.proofs.RunLemmas.{runs_are_runs_on_blocks, runs_are_the_manuals, runs_go_along}
use Rattle.vm_executor.proofs.laws.runs_are_the_manuals.Goals as goal

pub returns-clause-blocks : goal.returns-clause-blocks
returns-clause-blocks c = runs_are_runs_on_blocks

pub returns-clause-same : goal.returns-clause-same
returns-clause-same c = runs_are_the_manuals

pub returns-clause-along : goal.returns-clause-along
returns-clause-along c = runs_go_along
