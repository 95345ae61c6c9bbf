use Rattle.vm_prover.proofs.SegmentLemmas.{no_segments}
use Rattle.vm_prover.proofs.laws.no_segments_stand.Goals as goal

pub returns : goal.returns
returns g c = λ ext. no_segments _
