use Rattle.std.proofs.Common.{arith}
use Rattle.vm_filler.proofs.Limits.{height_made}
use Rattle.vm_filler.proofs.fill.height_of.Goals as goal

pub returns-else-rows-eq0 : goal.returns-else-rows-eq0
returns-else-rows-eq0 c =
    let made = c.next_power_of_two in
    height_made c.args.rows made.result made.ensures.power.0 (omega (arith, c.if-rows-eq0.false)) made.ensures.power.1 made.ensures.lower_bound (omega (arith, made.ensures.upper_bound))
