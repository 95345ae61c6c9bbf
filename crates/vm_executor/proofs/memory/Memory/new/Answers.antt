use Rattle.std.proofs.Common.{refl}
use Rattle.vm_executor.specs.Memory.{place_at}
use Rattle.vm_executor.proofs.KeepLemmas.{AreKept-none}
use Rattle.vm_executor.proofs.SegmentLemmas.{segment_begins}
use Rattle.vm_executor.proofs.memory.Memory.new.Goals as goal

pub invariant_of-result : goal.invariant_of-result
unfolding place_at
invariant_of-result c = (
  rw c.new-2.ensures.items AreKept-none,
  λ label. rw (c.new-2.ensures.items, c.new.ensures.empty) refl,
  rw (c.new-2.ensures.items, c.new-3.ensures.empty) (segment_begins c.args.image.now),
)
