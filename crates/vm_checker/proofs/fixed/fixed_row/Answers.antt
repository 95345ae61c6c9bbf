use Rattle.std.proofs.lemmas.Bool.{ne_eqb}
use Rattle.vm_checker.proofs.FixedRows.{is_row_at}
use Rattle.vm_checker.proofs.fixed.fixed_row.Goals as goal

pub returns-else-bus-eq-PROGRAM : goal.returns-else-bus-eq-PROGRAM
returns-else-bus-eq-PROGRAM c = rw (ne_eqb c.args.bus 1 c.if-bus-eq-PROGRAM.false) (is_row_at c.args.bus c.args.place c.tuple_at.result c.tuple_at.ensures)
