-- The numbers of a host's calls, and what they decide.
use Rattle.std.specs.Prelude.{◌≡◌, ℕ, ◌+◌, ◌-◌, ◌^◌, min, List, Contains, Result, IsErrOf, OnOk, IsSome}
use Rattle.vm_host.specs.declared.Slot.{Slot}
use Rattle.vm_host.specs.declared.HostError.{HostError}
use Rattle.vm_host.specs.declared.HostError.TheVariants.{Failed}
use Rattle.vm_host.specs.declared.named_file.NamedFile.{NamedFile}
use Rattle.vm_host.specs.declared.memory.MemoryHost.{MemoryHost}
use Rattle.vm_host.specs.State.{HostState}
use Rattle.vm_host.specs.Memory.{memory_state}

-- the number of the next call, from 0 on, which stays at 2 ^ 64 - 1
abbrev pub number_of : MemoryHost → ℕ
number_of m = m.failing.call

-- the numbers of the calls that are to fail
abbrev pub failing_of : MemoryHost → List ℕ
failing_of m = m.failing.numbers.items

-- the files that can be opened
abbrev pub files_of : MemoryHost → List NamedFile
files_of m = m.files.items

-- the next call is to fail
abbrev pub IsListed : MemoryHost → Type 0
IsListed m = Contains (failing_of m) (number_of m)

-- every part of the state is told
pub record TellsAll (s : HostState) : Type 0 where
  pub rest : (slot : Slot) → IsSome (s.input slot).rest
  pub written : IsSome s.output.written
  pub said : IsSome s.said
  pub named : IsSome s.named

-- a call took the next number, and answered Failed only where Fails, and Ok only where not; so where Fails
-- it can but answer Failed or, for want of memory, OutOfMemory
pub record Numbered {T : Type 0} (old new : MemoryHost) (result : Result T HostError) (Fails : Type 0) : Type 0 where
  pub failed : IsErrOf result Failed → Fails
  pub passed : OnOk result (Fails → ⊥)
  pub number : number_of new ≡ min (number_of old + 1) (2 ^ 64 - 1)
  pub failing : failing_of new ≡ failing_of old
  pub files : files_of new ≡ files_of old
  pub tells : TellsAll (memory_state new)
