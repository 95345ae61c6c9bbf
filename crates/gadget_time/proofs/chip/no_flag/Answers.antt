use Rattle.std.proofs.Common.{rules}
use Rattle.gadget_time.proofs.Row.{none_broken}
use Rattle.gadget_time.proofs.chip.no_flag.Goals as goal

pub returns : goal.returns
returns c = search (rules, none_broken)
