-- What next_access_of says of the meanings, and the constants. Each law is the contract of a function in src/laws.rt.
use Rattle.std.specs.Prelude.{◌≡◌, ℕ, ◌+◌, ◌<◌, ◌≤◌, ◌↔◌, true, List, [], ◌∷◌, ◌++◌, length, Some, None, slice_get}
use Rattle.vm_isa.specs.declared.instr.VmInstr.{VmInstr}
use Rattle.vm_isa.specs.declared.meaning.NextAccess.TheVariants.{NoMeaning, At, Done}
use Rattle.std.specs.List.{AllByRecursion}
use Rattle.vm_isa.specs.declared.opcode.TheConstants as code
use Rattle.vm_isa.specs.declared.space.TheConstants as spaces
use Rattle.vm_isa.specs.declared.accesses.TheConstants.{MAX_ACCESSES}
use Rattle.vm_isa.specs.Opcodes.{ADD, SUB, XOR, OR, AND, SLT, SLTU, SLL, SRL, SRA, LB, LH, LW, LBU, LHU, SB, SH, SW, BEQ, BNE, BLT, BLTU, BGE, BGEU, JAL, LUI, JALR, AUIPC, MUL, MULH, MULHSU, MULHU, DIV, DIVU, REM, REMU, HINT, REVEAL, NOP, SHA, TERMINATE, GREATEST}
use Rattle.vm_isa.specs.Spaces.{REGISTERS, MEMORY, PUBLIC}
use Rattle.vm_isa.specs.Slots.{slots_of}
use Rattle.vm_isa.specs.Blocks.{Blocks, Meets, is_block}
use Rattle.vm_isa.specs.Words.{IsWord}
use Rattle.vm_isa.specs.Instr.{InRange}
use Rattle.vm_isa.specs.Means.{Accessed, Meaning, means_of, next_access_of}

-- the constants of the code are the numbers of the definitions
pub record ConstantsAreTheNumbers : Type 0 where
  pub opcodes : code.ADD ∷ code.SUB ∷ code.XOR ∷ code.OR ∷ code.AND ∷ code.SLT ∷ code.SLTU ∷ code.SLL ∷ code.SRL ∷ code.SRA
      ∷ code.LB ∷ code.LH ∷ code.LW ∷ code.LBU ∷ code.LHU ∷ code.SB ∷ code.SH ∷ code.SW
      ∷ code.BEQ ∷ code.BNE ∷ code.BLT ∷ code.BLTU ∷ code.BGE ∷ code.BGEU ∷ code.JAL ∷ code.LUI ∷ code.JALR ∷ code.AUIPC
      ∷ code.MUL ∷ code.MULH ∷ code.MULHSU ∷ code.MULHU ∷ code.DIV ∷ code.DIVU ∷ code.REM ∷ code.REMU
      ∷ code.HINT ∷ code.REVEAL ∷ code.NOP ∷ code.SHA ∷ code.TERMINATE ∷ []
      ≡ ADD ∷ SUB ∷ XOR ∷ OR ∷ AND ∷ SLT ∷ SLTU ∷ SLL ∷ SRL ∷ SRA
      ∷ LB ∷ LH ∷ LW ∷ LBU ∷ LHU ∷ SB ∷ SH ∷ SW
      ∷ BEQ ∷ BNE ∷ BLT ∷ BLTU ∷ BGE ∷ BGEU ∷ JAL ∷ LUI ∷ JALR ∷ AUIPC
      ∷ MUL ∷ MULH ∷ MULHSU ∷ MULHU ∷ DIV ∷ DIVU ∷ REM ∷ REMU
      ∷ HINT ∷ REVEAL ∷ NOP ∷ SHA ∷ TERMINATE ∷ []
  pub greatest : code.GREATEST ≡ GREATEST
  pub spaces : spaces.REGISTERS ∷ spaces.MEMORY ∷ spaces.PUBLIC ∷ [] ≡ REGISTERS ∷ MEMORY ∷ PUBLIC ∷ []
  pub accesses : MAX_ACCESSES ≡ 64

-- after NoMeaning no further words make a meaning
abbrev pub NoMeaningIsFinal : Type 0
NoMeaningIsFinal = (i : VmInstr) (olds : List (List ℕ)) → next_access_of i olds ≡ NoMeaning
    → (more : List (List ℕ)) (given : List ℕ) → means_of i (olds ++ more) given ≡ None

-- and elsewhere some do
abbrev pub ElseMeaningIsLeft : Type 0
ElseMeaningIsLeft = (i : VmInstr) (olds : List (List ℕ)) → InRange i → (next_access_of i olds ≡ NoMeaning → ⊥)
    → (more : List (List ℕ)) × AllByRecursion IsWord more × ((given : List ℕ) → (m : Meaning) × (means_of i (olds ++ more) given ≡ Some m))

-- Done says that the words are those of a meaning
abbrev pub DoneIsAMeaning : Type 0
DoneIsAMeaning = (i : VmInstr) (olds : List (List ℕ)) (given : List ℕ)
    → (next_access_of i olds ≡ Done) ↔ ((m : Meaning) × (means_of i olds given ≡ Some m))

-- At says where each meaning with these first words has its next access
abbrev pub NextIsTheMeanings : Type 0
NextIsTheMeanings = (i : VmInstr) (olds more : List (List ℕ)) (given : List ℕ) (slot space pointer : ℕ) (m : Meaning)
    → next_access_of i olds ≡ At slot space pointer → means_of i (olds ++ more) given ≡ Some m
    → (a : Accessed) × (slice_get m.accesses (length olds) ≡ Some a) × (a.slot ≡ slot) × (a.space ≡ space) × (a.pointer ≡ pointer)

-- the slots of accesses rise from one number on, below another
abbrev pub SlotsRise : ℕ → ℕ → List Accessed → Type 0
SlotsRise from slots [] = Unit {0}
SlotsRise from slots (a ∷ more) = (from ≤ a.slot) × (a.slot < slots) × SlotsRise (a.slot + 1) slots more

-- the accesses of a meaning stand at rising slots of its opcode
abbrev pub SlotsOfAMeaningRise : Type 0
SlotsOfAMeaningRise = (i : VmInstr) (olds : List (List ℕ)) (given : List ℕ) (m : Meaning)
    → means_of i olds given ≡ Some m → SlotsRise 0 (slots_of i.op) m.accesses

-- no meaning but HINT's depends on the word that the host gives
abbrev pub GivenIsForHints : Type 0
GivenIsForHints = (i : VmInstr) (olds : List (List ℕ)) (given other : List ℕ) → (i.op ≡ HINT → ⊥)
    → means_of i olds given ≡ means_of i olds other

-- an access is to a block, which has its old word
abbrev pub FindsItsWord : Blocks → Accessed → Type 0
FindsItsWord blocks a = (is_block a.space a.pointer ≡ true) × (blocks a.space a.pointer ≡ a.old)

-- Where each access of a meaning finds its old word before the step, the accesses find them one after
-- another: none writes to a block that another comes to after it.
abbrev pub StandingWordsAreMet : Type 0
StandingWordsAreMet = (blocks : Blocks) (i : VmInstr) (olds : List (List ℕ)) (given : List ℕ) (m : Meaning)
    → means_of i olds given ≡ Some m → AllByRecursion (FindsItsWord blocks) m.accesses → Meets blocks m.accesses

-- And back: what they find one after another stood there before the step.
abbrev pub MetWordsStand : Type 0
MetWordsStand = (blocks : Blocks) (i : VmInstr) (olds : List (List ℕ)) (given : List ℕ) (m : Meaning)
    → means_of i olds given ≡ Some m → Meets blocks m.accesses → AllByRecursion (FindsItsWord blocks) m.accesses
