use Rattle.vm_transpile.proofs.Starts.{starts_are_same}
use Rattle.vm_transpile.proofs.laws.starts_are_same.Goals as goal

pub returns : goal.returns
returns c = starts_are_same
