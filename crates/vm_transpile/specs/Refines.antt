-- The machine on blocks does what the manual's machine does, and no more.
use Rattle.std.specs.Prelude.{◌≡◌, ℕ, ◌↔◌, List, Some, Contains}
use Rattle.elf_image.specs.Loaded.{Loaded, word_of}
use Rattle.elf_image.specs.Image.{HasImage, IsOfAFile}
use Rattle.rv_run.specs.Machine.{Machine, start}
use Rattle.rv_run.specs.Step.{goes, ends, step_of}
use Rattle.rv_run.specs.Run.{Goes, Ends}
use Rattle.vm_isa.specs.declared.instr.VmInstr.{VmInstr}
use Rattle.vm_isa.specs.Words.{IsBytes}
use Rattle.vm_isa.specs.Blocks.{VmState, VmStep, VmGoes, VmEnds, Terminates}
use Rattle.vm_transpile.specs.Program.{program_of}
use Rattle.vm_transpile.specs.Start.{vm_start}
use Rattle.vm_transpile.specs.Same.{IsMachine, Same}

-- a text word stands at an address; it need not be an instruction
abbrev pub HasText : Loaded → ℕ → Type 0
HasText loaded pc = (word : ℕ) × (word_of loaded pc ≡ Some word)

-- a row of the program stands there
abbrev pub HasRow : List VmInstr → ℕ → Type 0
HasRow program pc = (row : VmInstr) × Contains program row × (row.pc ≡ pc)

-- ---- one step over a program

-- A step that goes on, to where text stands, is a step on blocks.
abbrev pub GoesForth : Loaded → List VmInstr → Type 0
GoesForth loaded program = (m next : Machine) (s : VmState) → IsMachine m → Same m s → step_of loaded m ≡ goes next → HasText loaded next.pc
    → (t : VmState) × VmStep program s t × Same next t

-- A step on blocks, to where a row stands, is a step that goes on. Without that row it may be none: a
-- jump to an address that is no multiple of 4 is a trap, and a step on blocks to where no row can stand.
abbrev pub GoesBack : Loaded → List VmInstr → Type 0
GoesBack loaded program = (m : Machine) (s t : VmState) → IsMachine m → Same m s → VmStep program s t → HasRow program t.pc
    → (next : Machine) × (step_of loaded m ≡ goes next) × Same next t

-- a program ends where its row says so
abbrev pub EndsByRow : Loaded → List VmInstr → Type 0
EndsByRow loaded program = (m : Machine) (code : ℕ) → (step_of loaded m ≡ ends code) ↔ Terminates program m.pc code

-- the steps of a program are those of the machine
pub record StepsAlike (loaded : Loaded) (program : List VmInstr) : Type 0 where
  pub forth : GoesForth loaded program
  pub back : GoesBack loaded program
  pub ends_by_row : EndsByRow loaded program

-- ---- whole runs over a program

-- the run on these hints ends after as many steps, with the same exit code and public bytes, on both
abbrev pub EndsAlike : Loaded → List VmInstr → Type 0
EndsAlike loaded program = (hints : List ℕ) (n code : ℕ) (public_bytes : List ℕ) → IsBytes hints
    → Ends loaded hints n code public_bytes ↔ VmEnds program (vm_start loaded hints) n code public_bytes

-- ---- the laws, over every file that has an image

abbrev pub StateIsKept : Type 0
StateIsKept = (loaded : Loaded) (m next : Machine) → IsMachine m → step_of loaded m ≡ goes next → IsMachine next

abbrev pub StartsAreSame : Type 0
StartsAreSame = (hints : List ℕ) (loaded : Loaded) → IsBytes hints → IsOfAFile loaded
    → IsMachine (start loaded hints) × Same (start loaded hints) (vm_start loaded hints)

abbrev pub StepsGoForth : Type 0
StepsGoForth = (bytes : List ℕ) (loaded : Loaded) → HasImage bytes loaded → GoesForth loaded (program_of loaded)

abbrev pub StepsGoBack : Type 0
StepsGoBack = (bytes : List ℕ) (loaded : Loaded) → HasImage bytes loaded → GoesBack loaded (program_of loaded)

abbrev pub StepsEndByRows : Type 0
StepsEndByRows = (bytes : List ℕ) (loaded : Loaded) → HasImage bytes loaded → EndsByRow loaded (program_of loaded)

-- n steps lead to the same state on both, where text stands there
abbrev pub RunsGoForth : Type 0
RunsGoForth = (hints : List ℕ) (loaded : Loaded) → IsBytes hints → IsOfAFile loaded
    → (n : ℕ) (m : Machine) → Goes loaded hints n m → HasText loaded m.pc
    → (s : VmState) × VmGoes (program_of loaded) (vm_start loaded hints) n s × IsMachine m × Same m s

-- and where a row does
abbrev pub RunsGoBack : Type 0
RunsGoBack = (hints : List ℕ) (loaded : Loaded) → IsBytes hints → IsOfAFile loaded
    → (n : ℕ) (s : VmState) → VmGoes (program_of loaded) (vm_start loaded hints) n s → HasRow (program_of loaded) s.pc
    → (m : Machine) × Goes loaded hints n m × IsMachine m × Same m s

abbrev pub RunsEndAlike : Type 0
RunsEndAlike = (loaded : Loaded) → IsOfAFile loaded → EndsAlike loaded (program_of loaded)
