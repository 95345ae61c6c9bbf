use Rattle.std.proofs.Common.{◌≡◌, ℕ, ◌+◌, ◌<◌, [], get_or, length}
use Rattle.vm_word.specs.Word.{word_of_limbs}
use Rattle.vm_isa.proofs.writes.compressed.Given as goal

abbrev pub invariant-loop-j : goal.invariant-loop-j
invariant-loop-j l = (length l.state ≡ 8) × ((k : ℕ) → k < l.j → get_or l.state k 0 ≡ word_of_limbs (get_or l.old (18 + k) []))
