use Rattle.std.proofs.Common.{◌∙◌, sym, arith}
use Rattle.gadget_products.proofs.AddedCode.{added_all}
use Rattle.gadget_products.proofs.divide.added.Goals as goal

pub returns : goal.returns
returns g c = added_all c.loop-i.sums c.args.left.now c.args.right.now (omega (arith, c.loop-i.invariant.0)) (omega arith) (λ k low. c.loop-i.invariant.1 k (omega (arith, low)))
