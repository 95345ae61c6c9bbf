-- Opening a file, reading it whole, and looking at its bytes.
use Rattle.std.specs.Prelude.{◌≡◌, ℕ, ◌≤◌, List, [], ◌∷◌, take, true, Result, MatchResult}
use Rattle.vm_host.specs.declared.Slot.{Slot}
use Rattle.vm_host.specs.declared.Place.{Place}
use Rattle.vm_host.specs.declared.HostError.TheVariants.{Failed}
use Rattle.vm_host.specs.Names.{place_of}
use Rattle.vm_host.specs.State.{HostState, then_more}
use Rattle.vm_host.specs.Calls.{Rose, KeepsOther}
use Rattle.vm_tool.specs.declared.answer.Answer.{Answer}
use Rattle.vm_tool.specs.declared.answer.Halt.{Halt}
use Rattle.vm_tool.specs.declared.answer.Halt.TheVariants.{Found, Host}
use Rattle.vm_tool.specs.Files.{IsContent}

-- only inputs, faults and names may differ, and these names were handed over
pub record Quiet (old new : HostState) (names : List (Place × List ℕ)) : Type 0 where
  pub later : old.faults ≤ new.faults
  pub named : new.named ≡ then_more old.named names
  pub frame : new ≡ record old { faults = new.faults; input = new.input; named = new.named }

-- the input stands open at the file's front, and the name was noted
pub record IsOpened (slot : Slot) (name : List ℕ) (old new : HostState) : Type 0 where
  pub input : new.input slot ≡ record { is_open = true; rest = old.content slot name }
  pub other : KeepsOther slot old new
  pub quiet : Quiet old new ((place_of slot, name) ∷ [])

-- the file was read, as far as it decides the answer, and these are its bytes
pub record ReadWhole (slot : Slot) (name : List ℕ) (old new : HostState) (bytes : List ℕ) : Type 0 where
  pub told : IsContent (old.content slot name) bytes
  pub other : KeepsOther slot old new
  pub quiet : Quiet old new ((place_of slot, name) ∷ [])

-- the name was noted, or it was not
pub record ReadNone (slot : Slot) (name : List ℕ) (old new : HostState) : Type 0 where
  pub count : ℕ
  pub other : KeepsOther slot old new
  pub quiet : Quiet old new (take count ((place_of slot, name) ∷ []))

-- the file's bytes are refused with an answer, or the host failed, or memory was refused
abbrev pub HaltsAt : (List ℕ → Answer → Type 0) → Slot → List ℕ → HostState → HostState → Halt → Type 0
HaltsAt Refuses slot name old new (Found found) = (bytes : List ℕ) × ReadWhole slot name old new bytes × Refuses bytes found
HaltsAt Refuses slot name old new (Host error) = ReadNone slot name old new × (error ≡ Failed → Rose old.faults new.faults)

-- what is made of the file's bytes, or why nothing is
abbrev pub Gives : {V : Type 0} → (List ℕ → V → Type 0) → (List ℕ → Answer → Type 0) → Slot → List ℕ → HostState → HostState → Result V Halt → Type 0
Gives Makes Refuses slot name old new result =
    MatchResult result (λ v. (bytes : List ℕ) × ReadWhole slot name old new bytes × Makes bytes v) (HaltsAt Refuses slot name old new)
