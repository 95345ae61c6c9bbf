use Rattle.vm_prover.proofs.SegmentLemmas.{segments_go_on}
use Rattle.vm_prover.proofs.laws.segments_go_on.Goals as goal

pub returns : goal.returns
returns g c = λ ext. segments_go_on _ (c.filled_segments_hold.ensures ext) (c.filled_segments_are_canonical.ensures ext) (c.filled_segments_are_of_records.ensures.count ext) (c.filled_segments_are_of_records.ensures.spell ext)
