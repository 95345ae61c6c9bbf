-- The accesses that a step makes.
use Rattle.std.specs.Prelude.{◌≡◌, ℕ, ◌<◌, ◌≤◌, List, [], ◌∷◌, length, map, slice_index_or, Some}
use Rattle.vm_isa.specs.declared.access.TimedAccess.{TimedAccess}
use Rattle.vm_isa.specs.declared.instr.VmInstr.{VmInstr}
use Rattle.vm_isa.specs.Blocks.{Blocks, with_block}
use Rattle.vm_isa.specs.Means.{Accessed, Meaning, means_of, placed, placed_at}
use Rattle.vm_executor.specs.declared.block.Reached.{Reached}
use Rattle.vm_executor.specs.Machine.{Befores, times_after}
use Rattle.vm_executor.specs.Memory.{Kept, now_of, began_of, times_of, IsReached}
use Rattle.vm_executor.specs.Pages.{Times}

-- these accesses are those of a meaning, at their times, with the times of the accesses before
pub record ArePlanned (time : ℕ) (accesses : List Accessed) (times : Times) (done : List TimedAccess) : Type 0 where
  pub placed_so : map placed done ≡ map (placed_at time) accesses
  pub before : Befores times done

-- those of the meaning at these words
abbrev pub IsPlanned : VmInstr → List (List ℕ) → List ℕ → ℕ → Times → List TimedAccess → Type 0
IsPlanned i words given time times done = (m : Meaning) → means_of i words given ≡ Some m → ArePlanned time m.accesses times done

-- an access of a block
pub record IsAt (block : Reached) (a : TimedAccess) : Type 0 where
  pub space_is : a.access.space ≡ block.space
  pub pointer_is : a.access.pointer ≡ block.pointer
  pub begun : 1 ≤ a.time

-- accesses of these blocks, one by one
pub record AreAt (kept : Kept) (blocks : List Reached) (done : List TimedAccess) : Type 0 where
  pub count : length blocks ≡ length done
  pub few : length done ≤ 26
  pub each : (number : ℕ) (none : Reached) (no_access : TimedAccess) → number < length blocks
      → IsReached kept (slice_index_or blocks number none) × IsAt (slice_index_or blocks number none) (slice_index_or done number no_access)

-- the blocks after accesses
abbrev pub after_timed : Blocks → List TimedAccess → Blocks
after_timed blocks [] = blocks
after_timed blocks (a ∷ more) = after_timed (with_block blocks a.access.space a.access.pointer a.access.new) more

-- the accesses were made, from the old memory to the new one
pub record AreMade (old new : Kept) (done : List TimedAccess) : Type 0 where
  pub now : now_of new ≡ after_timed (now_of old) done
  pub began : began_of new ≡ began_of old
  pub times : times_of new ≡ times_after (times_of old) done
