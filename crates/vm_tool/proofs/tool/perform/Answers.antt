use Rattle.vm_tool.proofs.Spoken.{answers_spoken, answers_broken}
use Rattle.vm_tool.proofs.tool.perform.Goals as goal

pub returns-in-Found : goal.returns-in-Found
returns-in-Found g c = answers_spoken _ _ _ _ _ _ c.in-Found.ensures c.say.ensures
