use Rattle.std.proofs.Common.{arith}
use Rattle.vm_transpile.proofs.RowOrder.{rises_few}
use Rattle.vm_transpile.proofs.program.Program.len.Goals as goal

pub overflow_cast-result : goal.overflow_cast-result
overflow_cast-result c = omega (arith, rises_few 0 c.self.inside.rows.items (omega arith) c.self.invariant.0)
