use Rattle.vm_prover.proofs.EndLemmas.{ended_segments_prove}
use Rattle.vm_prover.proofs.laws.ended_segments_prove.Goals as goal

pub returns : goal.returns
returns g c = λ ext. ended_segments_prove _
