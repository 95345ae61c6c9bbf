use Rattle.std.proofs.Common.{[]}
use Rattle.vm_checker.proofs.segment.begin.Goals as goal

pub returns-clause-said : goal.returns-clause-said
returns-clause-said c = c.in_ok-hand_connector.ensures.lists [] c.new-tally.ensures.said
