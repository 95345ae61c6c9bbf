-- The bytes of a page stay whole.
use Rattle.std.proofs.Common.{ℕ, zero, suc, ◌<◌, List, [], ◌∷◌, set, ◌∙◌, length-set}
use Rattle.vm_isa.specs.Words.{IsBytes}
use Rattle.vm_trace.specs.Pages.{IsLeaf}

pub bytes_set : (xs : List ℕ) (k b : ℕ) → b < 256 → IsBytes xs → IsBytes (set xs k b)
bytes_set [] k b low h = tt
bytes_set (x ∷ xs) zero b low h = (low, h.1)
bytes_set (x ∷ xs) (suc k) b low h = (h.0, bytes_set xs k b low h.1)

pub leaf_set : (xs : List ℕ) (k b : ℕ) → b < 256 → IsLeaf xs → IsLeaf (set xs k b)
leaf_set xs k b low leaf = record { size = length-set xs k b ∙ leaf.size; bytes = bytes_set xs k b low leaf.bytes }
