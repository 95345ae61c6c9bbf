use Rattle.std.proofs.Common.{◌≡◌, ℕ, ◌<◌, length, get_or}
use Rattle.vm_field.specs.Field.{field_add}
use Rattle.gadget_products.proofs.divide.added.Given as goal

abbrev pub invariant-loop-i : goal.invariant-loop-i
invariant-loop-i g l = (length l.sums ≡ g.row.N) × ((k : ℕ) → k < l.i → get_or l.sums k 0 ≡ field_add (get_or l.left k 0) (get_or l.right k 0))
