-- Segments that are being cut, as far as the steps have come.
use Rattle.std.specs.Prelude.{◌≡◌, ℕ, List, ◌++◌, Bool, length}
use Rattle.elf_image.specs.Loaded.{Loaded}
use Rattle.rv_run.specs.Machine.{Machine, start}
use Rattle.vm_prover.specs.Cut.{StepsLead, cut, cut_on}
use Rattle.vm_prover.specs.declared.cutting.Cutting.{Cutting}

-- the lengths with these steps behind
abbrev pub cut_behind : Cutting → List Bool → List ℕ
cut_behind c more = c.closed.items ++ cut_on c.per_segment c.steps c.blocks more

-- so many steps have led here, and were cut
pub record IsCutSoFar (loaded : Loaded) (hints : List ℕ) (per_segment : ℕ) (c : Cutting) (steps : ℕ) (m : Machine) : Type 0 where
  pub kinds : List Bool
  pub stepped : StepsLead loaded (start loaded hints) kinds m
  pub count : length kinds ≡ steps
  pub same : (more : List Bool) → cut per_segment (kinds ++ more) ≡ cut_behind c more
