use Rattle.vm_transpile.proofs.Ranges.{rows_in_range}
use Rattle.vm_transpile.proofs.laws.rows_are_in_range.Goals as goal

pub returns : goal.returns
returns c = rows_in_range
