use Rattle.gadget_time.proofs.Row.{set_two}
use Rattle.gadget_time.proofs.chip.put_head.Goals as goal

pub returns-clause-so_far : goal.returns-clause-so_far
returns-clause-so_far c = set_two c.args.row.now c.args.pc c.args.time c.requires
