use Rattle.vm_prover.proofs.Lengths.{cuts_are_within, lengths_are_the_steps, only_no_steps_are_empty}
use Rattle.vm_prover.proofs.laws.cuts_are_within_limits.Goals as goal

pub returns : goal.returns
returns c = record { within = cuts_are_within; all = lengths_are_the_steps; used = only_no_steps_are_empty }
