use Rattle.vm_checker.proofs.FileTests.{segment_rejected_exactly}
use Rattle.vm_checker.proofs.laws.a_segment_is_rejected_exactly.Goals as goal

pub returns : goal.returns
returns c = segment_rejected_exactly
