use Rattle.std.proofs.Common.{◌≡◌, ℕ, ◌<◌, false, get_or, nat_eq}
use Rattle.std.specs.Int.{bit_at}
use Rattle.vm_word.proofs.bits.Given as goal

abbrev pub invariant-loop-place : goal.invariant-loop-place
invariant-loop-place l = (k : ℕ) → k < l.place → get_or l.bit-items k false ≡ nat_eq (bit_at l.word k) 1
