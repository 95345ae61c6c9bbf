use Rattle.std.proofs.Common.{◌≡◌, ℕ, ◌<◌, ◌≤◌, ◌+◌, ◌*◌, drop, get_or, length}
use Rattle.elf_image.specs.Loaded.{byte_in}
use Rattle.rv_run.proofs.memory.Memory.copied_page.Given as goal

-- the bytes of the loads from this place on are copied
abbrev pub invariant-loop-left : goal.invariant-loop-left
invariant-loop-left l = record {
  within : l.left ≤ length l.self.code.image.now.loads;
  long : length l.bytes ≡ 4096;
  copied : (k : ℕ) → k < 4096 → get_or l.bytes k 0 ≡ byte_in (drop l.left l.self.code.image.now.loads) (4096 * l.number + k);
}

abbrev pub decreases-loop-left : goal.decreases-loop-left
decreases-loop-left l = l.left
