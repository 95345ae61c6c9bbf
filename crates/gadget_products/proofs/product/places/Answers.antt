use Rattle.gadget_products.proofs.PlacesCode.{places_written, places_all}
use Rattle.std.proofs.lemmas.List.{length-set}
use Rattle.std.proofs.Common.{◌∙◌, arith}
use Rattle.gadget_products.proofs.product.places.Goals as goal

pub loop-i-preserved : goal.loop-i-preserved
loop-i-preserved g c = (
  length-set c.loop-i.sums c.loop-i.i c.place.result ∙ c.loop-i.invariant.0,
  places_written c.args.b.now c.args.c.now c.loop-i.sums c.loop-i.i c.place.result (omega (arith, c.loop-i.invariant.0)) c.place.ensures c.loop-i.invariant.1,
)

pub returns : goal.returns
returns g c = places_all c.args.b.now c.args.c.now c.loop-i.sums g.row.N c.loop-i.invariant.0 (λ k low. c.loop-i.invariant.1 k (omega (arith, low)))
