use Rattle.std.proofs.Common.{◌≡◌, length, map, take, drop}
use Rattle.vm_word.specs.Word.{word_of_limbs}
use Rattle.gadget_bits.specs.Record.{olds_of}
use Rattle.gadget_bits.proofs.record.state.Given as goal

abbrev pub invariant-loop-j : goal.invariant-loop-j
invariant-loop-j l = record { long : length l.state ≡ 8; front : take l.j l.state ≡ map word_of_limbs (take l.j (drop 18 (olds_of l.done))) }
