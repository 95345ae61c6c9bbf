use Rattle.std.proofs.Common.{◌≡◌, ◌+◌, ◌*◌, length}
use Rattle.rv_run.specs.Pages.{memory_of}
use Rattle.rv_run.proofs.Words.{Begins}
use Rattle.rv_run.proofs.memory.Memory.block.Given as goal

abbrev pub invariant-loop-i : goal.invariant-loop-i
invariant-loop-i l = (length l.bytes ≡ 64) × Begins l.bytes (λ k. memory_of l.self (l.address + k)) (4 * l.i)
