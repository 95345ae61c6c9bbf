use Rattle.std.proofs.Common.{◌≡◌, ◌+◌, ◌-◌, ℕ, subst, arith, length}
use Rattle.gadget_limbs.proofs.LessSteps.{Marks, marks_end, marks_step}
use Rattle.gadget_limbs.proofs.order.mark_highest.Goals as goal

pub loop-done-init : goal.loop-done-init
loop-done-init g c =
    let all : length c.args.left.now ≡ g.row.N - 0 = omega (arith, c.told-left) in
    subst (λ (n : ℕ). Marks c.args.marks.now c.args.left.now c.args.right.now n 0 0 0) all (marks_end c.args.marks.now c.args.left.now c.args.right.now (omega (arith, c.told-left, c.told-marks)) (omega (arith, c.told-left, c.told-right)))

pub loop-done-preserved : goal.loop-done-preserved
loop-done-preserved g c =
    let l = c.loop-done in
    let i = g.row.N - 1 - l.done in
    let here : g.row.N - l.done ≡ i + 1 = omega (arith, c.loop-done-test.true) in
    let there : g.row.N - (l.done + 1) ≡ i = omega (arith, c.loop-done-test.true) in
    let before = subst (λ (n : ℕ). Marks l.marks c.args.left.now c.args.right.now n l.above l.distance l.below) here l.invariant in
    rw (there, c.of_u16.ensures, c.highest-distance.ensures, c.highest-below.ensures, c.mark-mark.ensures.is, c.apart.ensures, c.is_below.ensures)
    (marks_step l.marks c.args.left.now c.args.right.now i c.index-left-i.result c.index-right-i.result l.above l.distance l.below (omega (arith, c.told-left, c.loop-done-test.true)) (omega (arith, c.told-right, c.loop-done-test.true)) before)

pub returns : goal.returns
returns g c =
    let l = c.loop-done in
    let none : g.row.N - l.done ≡ 0 = omega (arith, c.loop-done-test.false) in
    let all = subst (λ (n : ℕ). Marks l.marks c.args.left.now c.args.right.now n l.above l.distance l.below) none l.invariant in
    record { marks = all.marks_are; distance = all.distance_is; below = all.below_is }
