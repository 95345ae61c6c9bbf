use Rattle.std.proofs.Common.{◌≡◌, ℕ, ◌<◌, length, get_or}
use Rattle.air_core.specs.Ring.{field}
use Rattle.gadget_products.specs.Product.{place}
use Rattle.gadget_products.proofs.product.places.Given as goal

abbrev pub invariant-loop-i : goal.invariant-loop-i
invariant-loop-i g l = (length l.sums ≡ g.row.N) × ((k : ℕ) → k < l.i → get_or l.sums k 0 ≡ place field l.b l.c k)
