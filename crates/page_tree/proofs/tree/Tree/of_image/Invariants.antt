use Rattle.std.proofs.Common.{◌≤◌, length, drop}
use Rattle.page_tree.specs.Kept.{HasShape, shown}
use Rattle.page_tree.specs.Loading.{AreLoaded}
use Rattle.page_tree.proofs.tree.Tree.of_image.Given as goal

abbrev pub invariant-loop-left : goal.invariant-loop-left
invariant-loop-left l = record {
  within : l.left ≤ length l.image.loads;
  shape : HasShape 25 l.top;
  loaded : AreLoaded (drop l.left l.image.loads) 25 0 (shown 25 0 l.top);
}

abbrev pub decreases-loop-left : goal.decreases-loop-left
decreases-loop-left l = l.left
