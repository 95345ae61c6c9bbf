use Rattle.vm_prover.proofs.SegmentLemmas.{segments_are_made}
use Rattle.vm_prover.proofs.laws.segments_are_made.Goals as goal

pub returns : goal.returns
returns g c = λ ext. segments_are_made _ (c.filled_segments_are_canonical.ensures ext)
