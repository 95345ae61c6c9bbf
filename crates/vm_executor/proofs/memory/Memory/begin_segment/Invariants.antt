use Rattle.std.proofs.Common.{◌≡◌, ℕ}
use Rattle.std.specs.BTreeMap.{btree_map_len, get}
use Rattle.std.specs.Ordering.{nat_cmp}
use Rattle.vm_executor.specs.Memory.{AreKept}
use Rattle.vm_executor.proofs.SegmentLemmas.{Beginning}
use Rattle.vm_executor.proofs.memory.Memory.begin_segment.Given as goal

abbrev pub invariant-loop-place : goal.invariant-loop-place
invariant-loop-place l = record {
  same : l.self-inside.image.now ≡ l.initial.self-inside.image.now;
  places : (label : ℕ) → get nat_cmp l.self-inside.places label ≡ get nat_cmp l.initial.self-inside.places label;
  on : Beginning l.initial.self-inside.pages.items l.self-inside.pages.items l.self-inside.segment.entries;
  kept : AreKept l.self-inside.pages.items;
}

abbrev pub decreases-loop-place : goal.decreases-loop-place
decreases-loop-place l = btree_map_len l.self-inside.segment
