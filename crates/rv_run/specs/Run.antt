-- Runs of the machine.
use Rattle.std.specs.Prelude.{◌≡◌, ℕ, zero, suc, ◌+◌, ◌≤◌, List}
use Rattle.elf_image.specs.Loaded.{Loaded}
use Rattle.rv_run.specs.declared.outcome.Trap.{Trap}
use Rattle.rv_run.specs.declared.outcome.RunEnd.{RunEnd}
use Rattle.rv_run.specs.declared.outcome.RunEnd.TheVariants.{Ended, StepLimit, Trapped}
use Rattle.rv_run.specs.Machine.{Machine, start}
use Rattle.rv_run.specs.Step.{goes, ends, traps, step_of}

-- n steps from the start all go on, and reach this state
abbrev pub Goes : Loaded → List ℕ → ℕ → Machine → Type 0
Goes loaded hints zero m = m ≡ start loaded hints
Goes loaded hints (suc n) m = (before : Machine) × Goes loaded hints n before × (step_of loaded before ≡ goes m)

-- after n steps the run ends with this exit code and these public bytes
pub record Ends (loaded : Loaded) (hints : List ℕ) (n code : ℕ) (public_bytes : List ℕ) : Type 0 where
  pub last : Machine
  pub reached : Goes loaded hints n last
  pub ended : step_of loaded last ≡ ends code
  pub shown : last.public_bytes ≡ public_bytes

-- after n steps the run comes to this trap
pub record Traps (loaded : Loaded) (hints : List ℕ) (n : ℕ) (trap : Trap) : Type 0 where
  pub last : Machine
  pub reached : Goes loaded hints n last
  pub trapped : step_of loaded last ≡ traps trap

-- how a run of at most this many steps ends; at the limit, one step more still goes on
abbrev pub IsRunEnd : Loaded → List ℕ → ℕ → RunEnd → Type 0
IsRunEnd loaded hints limit (Ended steps code public_bytes) = (steps ≤ limit) × Ends loaded hints steps code public_bytes
IsRunEnd loaded hints limit (Trapped steps trap) = (steps ≤ limit) × Traps loaded hints steps trap
IsRunEnd loaded hints limit StepLimit = (m : Machine) × Goes loaded hints (limit + 1) m
