-- A record of a SHA block: two registers, sixteen words of the block, eight of the state.
use Rattle.std.specs.Prelude.{ℕ, List, map, take, drop}
use Rattle.std.specs.List.{concat}
use Rattle.vm_word.specs.Word.{word_of_limbs}
use Rattle.vm_isa.specs.declared.access.TimedAccess.{TimedAccess}
use Rattle.vm_isa.specs.declared.record.StepRecord.{StepRecord}

-- the word before an access
abbrev pub old_of : TimedAccess → List ℕ
old_of a = a.access.old

abbrev pub olds_of : StepRecord → List (List ℕ)
olds_of done = map old_of done.accesses

-- the state is the words of accesses 18 to 25, the block the bytes of accesses 2 to 17
abbrev pub state_of : StepRecord → List ℕ
state_of done = map word_of_limbs (take 8 (drop 18 (olds_of done)))

abbrev pub block_of : StepRecord → List ℕ
block_of done = concat (take 16 (drop 2 (olds_of done)))
