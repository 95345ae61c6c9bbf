-- What a prover answers, what it writes, and what it leaves behind.
use Rattle.std.specs.Prelude.{◌≡◌, ◌⊎◌, ℕ, List, [], ◌∷◌, length, false, Result, IfOk, IfSome, OnErr}
use Rattle.elf_image.specs.Loaded.{Loaded}
use Rattle.vm_host.specs.declared.HostError.{HostError}
use Rattle.vm_host.specs.declared.Place.TheVariants.{Out}
use Rattle.vm_host.specs.State.{HostState, then_more}
use Rattle.vm_host.specs.Calls.{GrowsByPart, HasCause}
use Rattle.vm_trace.specs.File.{File}
use Rattle.air_core.specs.System.{System}
use Rattle.table_format.specs.Texts.{file_text}
use Rattle.vm_prover.specs.Progress.{StatesRun}
use Rattle.vm_prover.specs.Survey.{EndsCut, TrapsCut, GoesPast}
use Rattle.vm_prover.specs.declared.proving.Proved.{Proved}
use Rattle.vm_prover.specs.declared.proving.Proving.{Proving}
use Rattle.vm_prover.specs.declared.proving.Proving.TheVariants as proving

-- ---- what a run comes to

-- it ends, and this is its claim
pub record EndsSo (loaded : Loaded) (hints : List ℕ) (per_segment : ℕ) (claim : Proved) : Type 0 where
  pub lengths : List ℕ
  pub ends : EndsCut loaded hints per_segment claim.steps lengths claim.code claim.public
  pub count : claim.segments ≡ length lengths

abbrev pub ComesTo : Loaded → List ℕ → ℕ → Proving → Type 0
ComesTo loaded hints per_segment (proving.Proved claim) = EndsSo loaded hints per_segment claim
ComesTo loaded hints per_segment (proving.Trapped trap) = TrapsCut loaded hints per_segment trap
ComesTo loaded hints per_segment proving.TooManySegments = GoesPast loaded hints per_segment

-- ---- the file

-- the bytes of a file of this version that is accepted and states the run
pub record SpellsRun (x : System) (version : ℕ) (loaded : Loaded) (hints lengths : List ℕ) (code : ℕ) (public_bytes bytes : List ℕ) : Type 0 where
  pub file : File
  pub text : bytes ≡ file_text file
  pub version_is : file.version ≡ version
  pub states : StatesRun x loaded hints lengths code public_bytes file

-- ---- the host

-- the output is closed, and what was written is the file of a run that ends so
pub record WritesRun (x : System) (version : ℕ) (loaded : Loaded) (hints : List ℕ) (per_segment : ℕ) (claim : Proved) (new : HostState) : Type 0 where
  pub so : EndsSo loaded hints per_segment claim
  pub closed : new.output.creating ≡ false
  pub written : IfSome new.output.written (SpellsRun x version loaded hints so.lengths claim.code claim.public)

-- What is left of a host: the whole file under its name; and where the run doesn't end so, all as it was.
abbrev pub LeavesBehind : System → ℕ → Loaded → List ℕ → ℕ → List ℕ → HostState → HostState → Proving → Type 0
LeavesBehind x version loaded hints per_segment name old new (proving.Proved claim) =
    WritesRun x version loaded hints per_segment claim new × (new.named ≡ then_more old.named ((Out, name) ∷ []))
LeavesBehind x version loaded hints per_segment name old new (proving.Trapped trap) = new ≡ old
LeavesBehind x version loaded hints per_segment name old new proving.TooManySegments = new ≡ old

-- What a prover does. Where it fails, some first part of a file may stand, but only where the run ends within its segments.
pub record Proves (x : System) (version : ℕ) (loaded : Loaded) (hints : List ℕ) (per_segment : ℕ) (name : List ℕ) (old new : HostState) (result : Result Proving HostError) : Type 0 where
  pub cause : HasCause old.faults new.faults result
  pub comes : IfOk result (ComesTo loaded hints per_segment)
  pub leaves : IfOk result (LeavesBehind x version loaded hints per_segment name old new)
  pub named : GrowsByPart old.named new.named ((Out, name) ∷ [])
  pub frame : new ≡ record old { faults = new.faults; output = new.output; named = new.named; content = new.content }
  pub kept : OnErr result ((new ≡ old) ⊎ ((claim : Proved) × EndsSo loaded hints per_segment claim))

-- a run comes to one thing
abbrev pub ProvingIsOne : Type 0
ProvingIsOne = (loaded : Loaded) (hints : List ℕ) (per_segment : ℕ) (a b : Proving) → ComesTo loaded hints per_segment a → ComesTo loaded hints per_segment b → a ≡ b
