-- How a run ends, as far as a file can tell it: one has at most 4,096 segments.
use Rattle.std.specs.Prelude.{ℕ, ◌<◌, ◌≤◌, List, length}
use Rattle.elf_image.specs.Loaded.{Loaded}
use Rattle.rv_run.specs.declared.outcome.Trap.{Trap as Cause}
use Rattle.rv_run.specs.Run.{Ends, Traps}
use Rattle.vm_prover.specs.Cut.{CutsTo}
use Rattle.vm_prover.specs.declared.plain_run.Surveyed.{Surveyed}
use Rattle.vm_prover.specs.declared.plain_run.Surveyed.TheVariants.{Ended, Trapped, TooManySegments}

-- it ends, and these are the lengths of its segments
pub record EndsCut (loaded : Loaded) (hints : List ℕ) (per_segment steps : ℕ) (lengths : List ℕ) (code : ℕ) (public_bytes : List ℕ) : Type 0 where
  pub ends : Ends loaded hints steps code public_bytes
  pub cuts : CutsTo loaded hints per_segment steps lengths
  pub few : length lengths ≤ 4096

-- it traps
pub record TrapsCut (loaded : Loaded) (hints : List ℕ) (per_segment : ℕ) (trap : Cause) : Type 0 where
  pub steps : ℕ
  pub lengths : List ℕ
  pub traps : Traps loaded hints steps trap
  pub cuts : CutsTo loaded hints per_segment steps lengths
  pub few : length lengths ≤ 4096

-- some of its steps have more segments
pub record GoesPast (loaded : Loaded) (hints : List ℕ) (per_segment : ℕ) : Type 0 where
  pub steps : ℕ
  pub lengths : List ℕ
  pub cuts : CutsTo loaded hints per_segment steps lengths
  pub many : 4096 < length lengths

abbrev pub IsSurvey : Loaded → List ℕ → ℕ → Surveyed → Type 0
IsSurvey loaded hints per_segment (Ended ending) = EndsCut loaded hints per_segment ending.steps ending.lengths.items ending.code ending.public
IsSurvey loaded hints per_segment (Trapped trap) = TrapsCut loaded hints per_segment trap
IsSurvey loaded hints per_segment TooManySegments = GoesPast loaded hints per_segment
