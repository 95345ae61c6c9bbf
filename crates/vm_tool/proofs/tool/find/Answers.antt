use Rattle.vm_tool.proofs.Stages.{finds_no_command}
use Rattle.vm_tool.proofs.tool.find.Goals as goal

pub returns-in-None : goal.returns-in-None
returns-in-None g c = rw c.in-None.is (finds_no_command _)
