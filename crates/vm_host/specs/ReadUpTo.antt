-- What reading the whole rest of an input gives.
use Rattle.std.specs.Prelude.{◌≡◌, ℕ, ◌+◌, ◌≤◌, ◌<◌, List, length, true, Result, IsErrOf, IfOk, OnOk, IfSome}
use Rattle.vm_host.specs.declared.Slot.{Slot}
use Rattle.vm_host.specs.declared.ReadError.{ReadError}
use Rattle.vm_host.specs.declared.ReadError.TheVariants.{TooLong, Host}
use Rattle.vm_host.specs.declared.HostError.TheVariants.{Failed}
use Rattle.vm_host.specs.State.{HostState, after_these}
use Rattle.vm_host.specs.Calls.{AtEnd, Rose, KeepsOther}

-- from old to new these bytes were read from the input, and nothing else happened but faults
pub record Took (slot : Slot) (old new : HostState) (bytes : List ℕ) : Type 0 where
  pub later : old.faults ≤ new.faults
  pub is_open : (new.input slot).is_open ≡ true
  pub taken : (old.input slot).rest ≡ after_these bytes (new.input slot).rest
  pub other : KeepsOther slot old new
  pub frame : new ≡ record old { faults = new.faults; input = new.input }

-- the whole rest was read, of at most `limit` bytes; items gives the bytes of the answer
pub record ReadsUpTo {V : Type 0} (items : V → List ℕ) (slot : Slot) (limit : ℕ) (old new : HostState) (result : Result V ReadError) : Type 0 where
  -- whatever the answer, the input lost what was read, and nothing else changed
  pub took : (bytes : List ℕ) × Took slot old new bytes
  -- no more is read than one byte past the limit
  pub within : length took.0 ≤ limit + 1
  pub bound : IfOk result (λ v. length (items v) ≤ limit)
  pub exact : IfOk result (λ v. took.0 ≡ items v)
  pub end : OnOk result (AtEnd (new.input slot).rest)
  pub whole : IfOk result (λ v. IfSome (old.input slot).rest (λ rest. items v ≡ rest))
  -- where told, a rest that is longer than the limit is the only one that is too long, and isn't read
  pub too_long : IsErrOf result TooLong → IfSome (old.input slot).rest (λ rest. limit < length rest)
  pub fits : OnOk result (IfSome (old.input slot).rest (λ rest. length rest ≤ limit))
  pub read_past : IsErrOf result TooLong → length took.0 ≡ limit + 1
  pub fault : IsErrOf result (Host Failed) → Rose old.faults new.faults
