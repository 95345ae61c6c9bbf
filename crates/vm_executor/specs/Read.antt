-- The words that a step reads before it writes.
use Rattle.std.specs.Prelude.{◌≡◌, ℕ, ◌<◌, List, length, take, slice_index_or, Option, Some, None}
use Rattle.vm_isa.specs.declared.instr.VmInstr.{VmInstr}
use Rattle.vm_isa.specs.declared.meaning.NextAccess.TheVariants.{At, Done}
use Rattle.vm_isa.specs.Blocks.{Blocks, Meets}
use Rattle.vm_isa.specs.Means.{Meaning, means_of, next_access_of}
use Rattle.vm_executor.specs.declared.block.Reached.{Reached}
use Rattle.vm_executor.specs.Memory.{Kept, IsReached}

-- these are the old words of the one meaning that can be done, or there is none
abbrev pub IsReadAs : VmInstr → Blocks → Option (List (List ℕ)) → Type 0
IsReadAs i blocks None = (olds : List (List ℕ)) (given : List ℕ) (m : Meaning) → means_of i olds given ≡ Some m → Meets blocks m.accesses → ⊥
IsReadAs i blocks (Some words) =
    (next_access_of i words ≡ Done)
    × ((given : List ℕ) (m : Meaning) → means_of i words given ≡ Some m → Meets blocks m.accesses)
    × ((olds : List (List ℕ)) (given : List ℕ) (m : Meaning) → means_of i olds given ≡ Some m → Meets blocks m.accesses → olds ≡ words)

-- the next access after the first words, of a block that was reached
pub record IsNext (i : VmInstr) (kept : Kept) (words : List (List ℕ)) (number : ℕ) (block : Reached) : Type 0 where
  pub is : next_access_of i (take number words) ≡ At block.slot block.space block.pointer
  pub reached : IsReached kept block

-- the blocks of the accesses that these are the old words of
pub record AreReached (i : VmInstr) (kept : Kept) (words : List (List ℕ)) (blocks : List Reached) : Type 0 where
  pub count : length blocks ≡ length words
  pub each : (number : ℕ) (none : Reached) → number < length blocks → IsNext i kept words number (slice_index_or blocks number none)
