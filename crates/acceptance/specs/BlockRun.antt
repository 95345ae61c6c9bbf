-- A run of steps as the virtual machine's memory of blocks meets it.
use Rattle.std.specs.Prelude.{List, [], ◌∷◌, map}
use Rattle.vm_isa.specs.Blocks.{Blocks, Meets, after_accesses}
use Rattle.vm_isa.specs.Means.{Accessed}
use Rattle.air_core.specs.Step.{accessed}
use Rattle.acceptance.specs.OneRun.{RowStep}

abbrev pub step_accesses : RowStep → List Accessed
step_accesses step = map accessed step.accesses

-- each step finds its old words in the blocks that the steps before it left
abbrev pub StepsMeet : Blocks → List RowStep → Type 0
StepsMeet blocks [] = Unit {0}
StepsMeet blocks (step ∷ more) = Meets blocks (step_accesses step) × StepsMeet (after_accesses blocks (step_accesses step)) more

-- what the steps leave
abbrev pub after_steps : Blocks → List RowStep → Blocks
after_steps blocks [] = blocks
after_steps blocks (step ∷ more) = after_steps (after_accesses blocks (step_accesses step)) more
