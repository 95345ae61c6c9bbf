use Rattle.vm_prover.proofs.Lengths.{cuts_grow}
use Rattle.vm_prover.proofs.laws.cuts_grow.Goals as goal

pub returns : goal.returns
returns c = cuts_grow
