-- What the calls of a host do to its state.
use Rattle.std.specs.Prelude.{◌≡◌, ◌⊎◌, ℕ, ◌+◌, ◌-◌, ◌^◌, ◌≤◌, ◌<◌, min, List, [], ◌∷◌, length, take, true, false, Result, IsErrOf, IfOk, OnOk, OnErr, IfSome}
use Rattle.std.specs.declared.option.Option.{Option}
use Rattle.vm_host.specs.declared.Slot.{Slot}
use Rattle.vm_host.specs.declared.HostError.{HostError}
use Rattle.vm_host.specs.declared.HostError.TheVariants.{Failed, OutOfMemory}
use Rattle.vm_host.specs.declared.Place.{Place}
use Rattle.vm_host.specs.declared.Place.TheVariants.{Out}
use Rattle.vm_host.specs.Names.{place_of, other}
use Rattle.vm_host.specs.State.{HostState, then_more, after_these}

-- the count of faults rose, or stands at its last value, 2 ^ 64 - 1
abbrev pub Rose : ℕ → ℕ → Type 0
Rose before now = min (before + 1) (2 ^ 64 - 1) ≤ now

-- the count doesn't fall, and a failure has raised it
pub record HasCause {T : Type 0} (before now : ℕ) (result : Result T HostError) : Type 0 where
  pub later : before ≤ now
  pub failed : IsErrOf result Failed → Rose before now

-- some first part of xs was added
pub record GrowsByPart {A : Type 0} (old new : Option (List A)) (xs : List A) : Type 0 where
  pub count : ℕ
  pub grown : new ≡ then_more old (take count xs)

-- the name was noted, or memory was refused and it was not
abbrev pub Notes : {T : Type 0} → Option (List (Place × List ℕ)) → Option (List (Place × List ℕ)) → Place × List ℕ → Result T HostError → Type 0
Notes old new pair result = (new ≡ then_more old (pair ∷ [])) ⊎ (IsErrOf result OutOfMemory × (new ≡ old))

-- the other input stays
abbrev pub KeepsOther : Slot → HostState → HostState → Type 0
KeepsOther slot old new = new.input (other slot) ≡ old.input (other slot)

-- an input was opened at its front; refused, nothing is said of its slot
pub record Opens {T : Type 0} (slot : Slot) (name : List ℕ) (old new : HostState) (result : Result T HostError) : Type 0 where
  pub cause : HasCause old.faults new.faults result
  pub opened : OnOk result (new.input slot ≡ record { is_open = true; rest = old.content slot name })
  pub named : Notes old.named new.named (place_of slot, name) result
  pub other : KeepsOther slot old new
  pub frame : new ≡ record old { faults = new.faults; input = new.input; named = new.named }

-- where told, nothing is left
abbrev pub AtEnd : Option (List ℕ) → Type 0
AtEnd told = IfSome told (λ rest. rest ≡ [])

-- the first bytes of the rest were taken, none of them only at the end; refused, none were
pub record Reads (slot : Slot) (old new : HostState) (result : Result ℕ HostError) (into : List ℕ) : Type 0 where
  pub cause : HasCause old.faults new.faults result
  pub bound : IfOk result (λ count. count ≤ length into)
  pub taken : IfOk result (λ count. (old.input slot).rest ≡ after_these (take count into) (new.input slot).rest)
  pub end : IfOk result (λ count. count ≡ 0 → 0 < length into → AtEnd (new.input slot).rest)
  pub refused : OnErr result ((new.input slot).rest ≡ (old.input slot).rest)
  pub is_open : (new.input slot).is_open ≡ true
  pub other : KeepsOther slot old new
  pub frame : new ≡ record old { faults = new.faults; input = new.input }

-- an empty output was started, which may change what files have; refused, none stands open
pub record Creates {T : Type 0} (name : List ℕ) (old new : HostState) (result : Result T HostError) : Type 0 where
  pub cause : HasCause old.faults new.faults result
  pub empty : OnOk result ((new.output.creating ≡ true) × IfSome new.output.written (λ bytes. bytes ≡ []))
  pub refused : OnErr result (new.output.creating ≡ false)
  pub kept : OnErr result ((new.output.written ≡ old.output.written) ⊎ IfSome new.output.written (λ bytes. bytes ≡ []))
  pub named : Notes old.named new.named (Out, name) result
  pub frame : new ≡ record old { faults = new.faults; output = new.output; named = new.named; content = new.content }

-- a piece was appended to the output; refused, some first part of it
pub record Writes {T : Type 0} (piece : List ℕ) (old new : HostState) (result : Result T HostError) : Type 0 where
  pub cause : HasCause old.faults new.faults result
  pub whole : OnOk result (new.output.written ≡ then_more old.output.written piece)
  pub part : GrowsByPart old.output.written new.output.written piece
  pub creating : new.output.creating ≡ old.output.creating
  pub frame : new ≡ record old { faults = new.faults; output = new.output }

-- the output was closed, also where that was refused
pub record Finishes {T : Type 0} (old new : HostState) (result : Result T HostError) : Type 0 where
  pub cause : HasCause old.faults new.faults result
  pub closed : new ≡ record old { faults = new.faults; output = record { creating = false; written = old.output.written } }

-- a text was said; refused, some first part of it
pub record Says {T : Type 0} (text : List ℕ) (old new : HostState) (result : Result T HostError) : Type 0 where
  pub cause : HasCause old.faults new.faults result
  pub whole : OnOk result (new.said ≡ then_more old.said text)
  pub part : GrowsByPart old.said new.said text
  pub frame : new ≡ record old { faults = new.faults; said = new.said }
