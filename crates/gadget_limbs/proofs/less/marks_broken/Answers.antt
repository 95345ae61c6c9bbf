use Rattle.std.proofs.Common.{◌≡◌, ◌+◌, ◌-◌, ℕ, subst, arith}
use Rattle.std.proofs.Math.Nat.{add-zero}
use Rattle.gadget_limbs.proofs.LessSteps.{Upper, upper_end, upper_step}
use Rattle.gadget_limbs.proofs.less.marks_broken.Goals as goal

pub loop-done-init : goal.loop-done-init
loop-done-init g c = upper_end c.args.above_from c.args.marked_from c.args.distance c.args.less c.args.marks.now c.args.left.now c.args.right.now (g.row.N - 0) (omega (arith, c.requires.long))

pub loop-done-preserved : goal.loop-done-preserved
loop-done-preserved g c =
    let l = c.loop-done in
    let i = g.row.N - 1 - l.done in
    let here : g.row.N - l.done ≡ i + 1 = omega (arith, c.loop-done-test.true) in
    let there : g.row.N - (l.done + 1) ≡ i = omega (arith, c.loop-done-test.true) in
    let before = subst (λ (n : ℕ). Upper c.args.above_from c.args.marked_from c.args.distance c.args.less c.args.marks.now c.args.left.now c.args.right.now n l.sum l.above l.marked) here l.invariant in
    rw (there, c.earlier-above.ensures, c.earlier-marked.ensures, c.mul-equal.ensures, c.marked_differs-differs.ensures, c.sub.ensures, c.sub-difference.ensures, c.add-sum.ensures, c.index-marks-i.is)
    (upper_step c.args.above_from c.args.marked_from c.args.distance c.args.less c.args.marks.now c.args.left.now c.args.right.now i c.index-marks-i.result c.index-left-i.result c.index-right-i.result l.sum l.above l.marked
    (omega (arith, c.requires.long, c.loop-done-test.true)) (omega (arith, c.told-left, c.loop-done-test.true)) (omega (arith, c.told-right, c.loop-done-test.true)) before)

pub returns : goal.returns
returns g c =
    let l = c.loop-done in
    let none : g.row.N - l.done ≡ 0 = omega (arith, c.loop-done-test.false) in
    let all = subst (λ (n : ℕ). Upper c.args.above_from c.args.marked_from c.args.distance c.args.less c.args.marks.now c.args.left.now c.args.right.now n l.sum l.above l.marked) none l.invariant in
    record { sum = all.sum_is; above = rw add-zero at all.above_is; marked = rw add-zero at all.marked_is }
