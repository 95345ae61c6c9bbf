-- How a run is cut into segments: a segment takes steps until it has the greatest number of them, or until the next step
-- is a SHA block and it has 1,024 of these.
use Rattle.std.specs.Prelude.{◌≡◌, ℕ, ◌+◌, ◌≤◌, Bool, true, false, ◌&&◌, ◌||◌, nat_le, if◌then◌else◌, List, [], ◌∷◌, ◌++◌, length, sum, Option, Some}
use Rattle.std.specs.List.{AllByRecursion}
use Rattle.std.specs.Option.{option_and_then}
use Rattle.elf_image.specs.Loaded.{Loaded, word_of}
use Rattle.rv_decode.specs.declared.instr.Instr.{Instr}
use Rattle.rv_decode.specs.declared.instr.Instr.TheVariants.{ShaBlock}
use Rattle.rv_decode.specs.Listing.{decode_of}
use Rattle.rv_run.specs.Machine.{Machine, start}
use Rattle.rv_run.specs.Step.{goes, step_of}

-- ---- steps, each told by whether it is a SHA block

abbrev pub is_sha_block : Option Instr → Bool
is_sha_block (Some (ShaBlock state block)) = true
is_sha_block _ = false

-- the next step is a SHA block
abbrev pub has_sha_block : Loaded → Machine → Bool
has_sha_block loaded m = is_sha_block (option_and_then decode_of (word_of loaded m.pc))

-- steps of these kinds lead from one state to another
abbrev pub StepsLead : Loaded → Machine → List Bool → Machine → Type 0
StepsLead loaded from [] to = to ≡ from
StepsLead loaded from (kind ∷ kinds) to = (next : Machine) × (step_of loaded from ≡ goes next) × (kind ≡ has_sha_block loaded from) × StepsLead loaded next kinds to

abbrev pub sha_blocks_in : List Bool → ℕ
sha_blocks_in [] = 0
sha_blocks_in (kind ∷ kinds) = (if kind then 1 else 0) + sha_blocks_in kinds

-- ---- the lengths of segments

-- a segment with so many steps and SHA blocks ends before a step of this kind
abbrev pub ends_before : ℕ → ℕ → ℕ → Bool → Bool
ends_before per_segment steps blocks kind = nat_le per_segment steps || (kind && nat_le 1024 blocks)

-- from a segment on that has so many of both
abbrev pub cut_on : ℕ → ℕ → ℕ → List Bool → List ℕ
cut_on per_segment steps blocks [] = steps ∷ []
cut_on per_segment steps blocks (kind ∷ kinds) =
    if ends_before per_segment steps blocks kind then steps ∷ cut_on per_segment 1 (sha_blocks_in (kind ∷ [])) kinds
    else cut_on per_segment (steps + 1) (blocks + sha_blocks_in (kind ∷ [])) kinds

-- no steps are one segment of none
abbrev pub cut : ℕ → List Bool → List ℕ
cut per_segment kinds = cut_on per_segment 0 0 kinds

-- the first steps of the run on these hints, so many, are cut to these lengths
pub record CutsTo (loaded : Loaded) (hints : List ℕ) (per_segment steps : ℕ) (lengths : List ℕ) : Type 0 where
  pub kinds : List Bool
  pub last : Machine
  pub stepped : StepsLead loaded (start loaded hints) kinds last
  pub count : length kinds ≡ steps
  pub are : lengths ≡ cut per_segment kinds

-- ---- what lengths are

-- segments of these lengths have these steps, each at most so many, and at most 1,024 SHA blocks
abbrev pub AreWithin : ℕ → List ℕ → List Bool → Type 0
AreWithin per_segment [] kinds = kinds ≡ []
AreWithin per_segment (n ∷ lengths) kinds =
    (here : List Bool) × (rest : List Bool) × (kinds ≡ here ++ rest) × (length here ≡ n) × (n ≤ per_segment) × (sha_blocks_in here ≤ 1024) × AreWithin per_segment lengths rest

abbrev pub CutsAreWithin : Type 0
CutsAreWithin = (per_segment : ℕ) (kinds : List Bool) → 1 ≤ per_segment → AreWithin per_segment (cut per_segment kinds) kinds

-- the lengths of segments are the steps, together
abbrev pub LengthsAreTheSteps : Type 0
LengthsAreTheSteps = (per_segment : ℕ) (kinds : List Bool) → sum (cut per_segment kinds) ≡ length kinds

-- more steps have no fewer segments
abbrev pub CutsGrow : Type 0
CutsGrow = (per_segment : ℕ) (kinds more : List Bool) → length (cut per_segment kinds) ≤ length (cut per_segment (kinds ++ more))

-- none is empty, but where there are no steps
abbrev pub OnlyNoStepsAreEmpty : Type 0
OnlyNoStepsAreEmpty = (per_segment : ℕ) (kind : Bool) (kinds : List Bool) → 1 ≤ per_segment → AllByRecursion (λ n. 1 ≤ n) (cut per_segment (kind ∷ kinds))
