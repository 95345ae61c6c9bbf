use Rattle.vm_transpile.proofs.Refinement.{ends_by_row}
use Rattle.vm_transpile.proofs.laws.steps_end_by_rows.Goals as goal

pub returns : goal.returns
returns c = ends_by_row
