use Rattle.std.proofs.Common.{◌≡◌, drop, arith, sym, ◌∙◌}
use Rattle.std.proofs.lemmas.Bool.{eqb-true}
use Rattle.std.proofs.lemmas.Bool.Decides.{nat_tests}
use Rattle.air_core.proofs.FirstLemmas.{first_from-zero}
use Rattle.gadget_limbs.proofs.SumHolds.{sum_off}
use Rattle.gadget_limbs.proofs.SumLemmas.{sum_constraints-step, sum_constraints-end}
use Rattle.gadget_limbs.proofs.sum.first_broken.Goals as goal

pub loop-i-preserved : goal.loop-i-preserved
loop-i-preserved g c =
    let e = sum_constraints-step c.args.gate c.loop-i.carry c.args.left.now c.args.right.now c.args.sum.now c.loop-i.i _ _ _ (omega arith) (omega arith) (omega arith) c.index-left-i.is c.index-right-i.is c.index-sum-i.is in
    grind (arith, nat_tests)

pub returns-then-ne : goal.returns-then-ne
returns-then-ne g c =
    let e = sum_constraints-step c.args.gate c.loop-i.carry c.args.left.now c.args.right.now c.args.sum.now c.loop-i.i _ _ _ (omega arith) (omega arith) (omega arith) c.index-left-i.is c.index-right-i.is c.index-sum-i.is in
    grind (arith, nat_tests)

pub returns : goal.returns
returns g c =
    let e = sum_constraints-end c.args.gate c.loop-i.carry c.args.left.now (drop c.loop-i.i c.args.right.now) (drop c.loop-i.i c.args.sum.now) c.loop-i.i (omega arith) in
    grind (arith, nat_tests)

pub returns-then-eq : goal.returns-then-eq
returns-then-eq g c =
    let zero : c.args.gate ≡ 0 = eqb-true c.args.gate 0 (sym c.eq.ensures ∙ c.if-eq.true) in
    rw zero (sym (first_from-zero c.args.from _ (sum_off 0 c.args.left.now c.args.right.now c.args.sum.now)))
