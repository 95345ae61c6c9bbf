use Rattle.std.proofs.Common.{◌≡◌, take}
use Rattle.vm_executor.specs.Machine.{times_after}
use Rattle.vm_executor.specs.Pages.{Times}
use Rattle.vm_executor.proofs.write.time_after.Given as goal

abbrev pub invariant-loop-place : goal.invariant-loop-place
invariant-loop-place l = (times : Times) → times l.block.space l.block.pointer ≡ l.time → times_after times (take l.place l.made) l.block.space l.block.pointer ≡ l.last
