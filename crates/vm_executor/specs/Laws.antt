-- What the machine's steps say. Each law is the contract of a function in src/laws.rt.
use Rattle.std.specs.Prelude.{◌≡◌, ℕ, ◌+◌, ◌^◌, ◌≤◌, List, [], ◌∷◌, ◌++◌, All}
use Rattle.elf_image.specs.Loaded.{Loaded}
use Rattle.elf_image.specs.Image.{HasImage, IsOfAFile}
use Rattle.rv_run.specs.Machine.{Machine as Manual}
use Rattle.rv_run.specs.Run.{Goes as ManualGoes}
use Rattle.rv_run.specs.Step.{ends, goes, step_of}
use Rattle.vm_isa.specs.declared.instr.VmInstr.{VmInstr}
use Rattle.vm_isa.specs.declared.record.StepRecord.{StepRecord}
use Rattle.vm_isa.specs.Blocks.{VmGoes, VmStep}
use Rattle.vm_isa.specs.Hints.{Hints}
use Rattle.vm_isa.specs.Instr.{InRange}
use Rattle.vm_isa.specs.Means.{Fillable}
use Rattle.vm_isa.specs.Slots.{slots_of}
use Rattle.vm_isa.specs.Words.{IsBytes}
use Rattle.vm_trace.specs.declared.page.Touched.{Touched}
use Rattle.offline_memory.specs.Linked.{unmet, Linked, PagesFit}
use Rattle.vm_transpile.specs.Program.{program_of}
use Rattle.vm_transpile.specs.Refines.{HasText}
use Rattle.vm_transpile.specs.Same.{IsMachine, Same}
use Rattle.vm_executor.specs.declared.machine.Machined.{Machined}
use Rattle.vm_executor.specs.declared.machine.Machined.TheVariants.{Ended}
use Rattle.vm_executor.specs.Machine.{Machine, vm_state, begun, Goes, IsStuck, Since}
use Rattle.vm_executor.specs.Pages.{AreTouched, HasAccessOf}
use Rattle.vm_executor.specs.Records.{accesses_of}
use Rattle.vm_executor.specs.Runs.{IsWent, Ran, starting}
use Rattle.vm_executor.specs.State.{IsStep}

-- a completed step is one of the machine on blocks
abbrev pub StepsAreStepsOnBlocks : Type 0
StepsAreStepsOnBlocks = (program : List VmInstr) (s t : Machine) (d : StepRecord) → Goes program s t d → VmStep program (vm_state s) (vm_state t)

-- the records since a segment began, at the beginning and with a step more
abbrev pub SegmentsBegin : Type 0
SegmentsBegin = (program : List VmInstr) (m : Machine) → Since program m.pc [] (begun m)

abbrev pub StepsGoOn : Type 0
StepsGoOn = (program : List VmInstr) (pc : ℕ) (done : List StepRecord) (s t : Machine) (d : StepRecord) → Since program pc done s → Goes program s t d → Since program pc (done ++ d ∷ []) t

-- a step's record can be filled, where its row is in range, the hints are bytes, and it ends in time
abbrev pub StepsAreFillable : Type 0
StepsAreFillable = (bits : ℕ) (program : List VmInstr) (pc : ℕ) (done : List StepRecord) (s t : Machine) (d : StepRecord) → Since program pc done s → Goes program s t d → InRange d.instr → IsBytes s.hints
    → s.time + slots_of d.instr.op ≤ 2 ^ bits → Fillable bits d

-- each access meets what the last one of its block left
abbrev pub RecordsAreLinked : Type 0
RecordsAreLinked = (program : List VmInstr) (pc : ℕ) (done : List StepRecord) (m : Machine) → Since program pc done m → Linked unmet (accesses_of done)

-- the pages of a segment fit its records, and each has an access of them
abbrev pub TouchedPagesFit : Type 0
TouchedPagesFit = (program : List VmInstr) (pc : ℕ) (done : List StepRecord) (m : Machine) (pages : List Touched) → Since program pc done m → AreTouched m.start m.now m.times pages
    → PagesFit pages (accesses_of done) × All (HasAccessOf (accesses_of done)) pages

-- over the program of an image no step is stuck where the manual's machine goes on to where text stands
abbrev pub StuckNowhereAlone : Type 0
StuckNowhereAlone = (bytes : List ℕ) (loaded : Loaded) → HasImage bytes loaded → (m next : Manual) (s t : Machine) → IsMachine m → Same m (vm_state s) → step_of loaded m ≡ goes next → HasText loaded next.pc
    → IsStuck (program_of loaded) s t → ⊥

-- ---- whole runs

-- n steps of the machine are n steps on blocks
abbrev pub RunsAreRunsOnBlocks : Type 0
RunsAreRunsOnBlocks = (program : List VmInstr) (from : Machine) (n : ℕ) (m : Machine) → Ran program from n m → VmGoes program (vm_state from) n (vm_state m)

-- over the program of an image they lead to what n steps of the manual's machine lead to, where text stands there
abbrev pub RunsAreTheManuals : Type 0
RunsAreTheManuals = (hints : Hints) (loaded : Loaded) → IsBytes hints → IsOfAFile loaded → (n : ℕ) (m : Manual) (t : Machine) → ManualGoes loaded hints n m → Ran (program_of loaded) (starting loaded hints) n t → HasText loaded m.pc
    → IsMachine m × Same m (vm_state t)

-- There a step goes on where the manual's machine goes on to where text stands, and ends where it ends, with its exit
-- code. So it is stuck in neither case.
abbrev pub RunsGoAlong : Type 0
RunsGoAlong = (hints : Hints) (loaded : Loaded) → IsBytes hints → IsOfAFile loaded → (n : ℕ) (m : Manual) (t u : Machine) (answer : Machined) → ManualGoes loaded hints n m → Ran (program_of loaded) (starting loaded hints) n t
    → IsStep (program_of loaded) t u answer
    → ((next : Manual) → step_of loaded m ≡ goes next → HasText loaded next.pc → IsWent answer) × ((code : ℕ) → step_of loaded m ≡ ends code → answer ≡ Ended code)
