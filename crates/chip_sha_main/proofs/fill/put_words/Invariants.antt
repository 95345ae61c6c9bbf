use Rattle.std.proofs.Common.{◌≡◌, ◌+◌, ◌*◌, ◌++◌, flat_map, get_or, length, take}
use Rattle.std.specs.List.{range_with_len}
use Rattle.vm_field.specs.Limbs.{limbs_from, list_of}
use Rattle.vm_word.specs.Word.{limbs_of}
use Rattle.chip_sha_main.proofs.fill.put_words.Given as goal

abbrev pub invariant-loop-i : goal.invariant-loop-i
invariant-loop-i l = record { long : length l.rest ≡ length l.fn.rest; front : take (l.at + 4 * l.i) l.rest ≡ take l.at l.fn.rest ++ flat_map (λ i. list_of (limbs_from (limbs_of (get_or l.words i 0)))) (range_with_len 0 l.i) }
