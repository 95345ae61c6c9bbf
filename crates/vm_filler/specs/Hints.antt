-- The hints that records take.
use Rattle.std.specs.Prelude.{ℕ, nat_eq, if◌then◌else◌, List, [], ◌∷◌, map, flat_map, slice_index_or}
use Rattle.vm_isa.specs.declared.record.StepRecord.{StepRecord}
use Rattle.vm_isa.specs.Opcodes.{HINT}
use Rattle.acceptance.specs.Spelled.{HintEvent, Word}

-- the word that the record's access of this number leaves
abbrev pub word_left : StepRecord → ℕ → List ℕ
word_left d number = slice_index_or (map (λ a. a.access.new) d.accesses) number []

-- a HINT takes the word that it stores, in its second access
abbrev pub hint_of : StepRecord → List HintEvent
hint_of d = if nat_eq d.instr.op HINT then Word (word_left d 1) ∷ [] else []

abbrev pub hints_of : List StepRecord → List HintEvent
hints_of done = flat_map hint_of done
