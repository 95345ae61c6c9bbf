use Rattle.std.proofs.Common.{◌≡◌, ℕ, ◌<◌, slice_index}
use Rattle.vm_word.specs.Digits.{number_of_digits}
use Rattle.gadget_bits.proofs.bits.word_of.Given as goal

-- the bits so far make the word
abbrev pub invariant-loop-i : goal.invariant-loop-i
invariant-loop-i l = record { is : l.word ≡ number_of_digits 2 (λ k. slice_index l.bits k) l.i; small : (k : ℕ) → k < l.i → slice_index l.bits k < 2 }
