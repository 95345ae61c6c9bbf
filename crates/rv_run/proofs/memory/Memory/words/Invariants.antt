use Rattle.std.proofs.Common.{◌≡◌, ℕ, ◌<◌, ◌+◌, ◌*◌, get_or}
use Rattle.rv_run.specs.Memory.{number_at}
use Rattle.rv_run.specs.Pages.{memory_of}
use Rattle.rv_run.proofs.memory.Memory.words.Given as goal

abbrev pub invariant-loop-i : goal.invariant-loop-i
invariant-loop-i l = (k : ℕ) → k < l.i → get_or l.word-items k 0 ≡ number_at (memory_of l.self) (l.address + 4 * k) 4
