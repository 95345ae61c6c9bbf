use Rattle.std.proofs.Common.{◌≤◌, length, arith}
use Rattle.bus_core.proofs.Shorts.{front_again, front_is_padded}
use Rattle.bus_core.proofs.short.ShortTuple.of.Goals as goal

pub invariant_of-result : goal.invariant_of-result
invariant_of-result c =
    let fits : length c.args.tuple.now ≤ 8 = omega (arith, c.len-len.ensures, c.if-len-gt-MAX_SHORT.false) in
    (omega (arith, c.len-len.ensures, fits), rw c.len-len.ensures (front_is_padded c.args.tuple.now c.front.result fits c.front.ensures))

pub returns-clause-same : goal.returns-clause-same
returns-clause-same c =
    let fits : length c.args.tuple.now ≤ 8 = omega (arith, c.len-len.ensures, c.if-len-gt-MAX_SHORT.false) in
    rw c.len-len.ensures (front_again c.args.tuple.now c.front.result fits c.front.ensures)
