use Rattle.std.proofs.Common.{◌≡◌, ◌<◌, ◌+◌, ◌-◌, drop}
use Rattle.vm_field.specs.Field.{modulus, field_add}
use Rattle.gadget_products.specs.Product.{place}
use Rattle.gadget_products.proofs.PlaceCode.{left_by}
use Rattle.gadget_products.proofs.product.place.Given as goal
use Rattle.air_core.specs.Ring.{field}

abbrev pub invariant-loop-j : goal.invariant-loop-j
invariant-loop-j l = (l.sum < modulus) × ((place field) l.b l.c l.i ≡ field_add l.sum (left_by (drop l.j l.b) l.c (l.i + 1 - l.j)))
