-- Whole runs of the machine.
use Rattle.std.specs.Prelude.{◌≡◌, ℕ, zero, suc, ◌⊎◌, List}
use Rattle.elf_image.specs.Loaded.{Loaded}
use Rattle.vm_isa.specs.declared.instr.VmInstr.{VmInstr}
use Rattle.vm_isa.specs.declared.record.StepRecord.{StepRecord}
use Rattle.vm_isa.specs.Hints.{Hints}
use Rattle.vm_transpile.specs.Start.{start_blocks}
use Rattle.vm_executor.specs.declared.machine.Machined.{Machined}
use Rattle.vm_executor.specs.declared.machine.Machined.TheVariants.{Went, Ended, Stuck}
use Rattle.vm_executor.specs.Machine.{Machine, begun, Goes}
use Rattle.vm_executor.specs.Pages.{never}

-- the machine where a run begins, and a segment of it
abbrev pub starting : Loaded → Hints → Machine
starting loaded hints = record { pc = loaded.entry; time = 1; hints = hints; now = start_blocks loaded; start = start_blocks loaded; times = never }

-- the machine as it is, or where a segment begins with it
abbrev pub StaysOrBegins : Machine → Machine → Type 0
StaysOrBegins m n = (n ≡ m) ⊎ (n ≡ begun m)

-- n steps lead from a machine to this one; where it is, a segment may begin
abbrev pub Ran : List VmInstr → Machine → ℕ → Machine → Type 0
Ran program from zero m = StaysOrBegins from m
Ran program from (suc n) m = (before : Machine) × (after : Machine) × (done : StepRecord) × Ran program from n before × Goes program before after done × StaysOrBegins after m

-- the machine goes on
abbrev pub IsWent : Machined → Type 0
IsWent (Went done) = Unit {0}
IsWent (Ended code) = ⊥
IsWent Stuck = ⊥
