use Rattle.std.proofs.Common.{length}
use Rattle.gadget_time.proofs.Row.{set_one}
use Rattle.gadget_time.proofs.chip.set_flag.Goals as goal

pub returns : goal.returns
returns c = rw (c.fill.ensures.after (λ y h. h)) (set_one (length c.args.flags.now) c.args.place c.requires)
