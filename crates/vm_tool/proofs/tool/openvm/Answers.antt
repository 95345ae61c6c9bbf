use Rattle.vm_tool.proofs.CheckLaws.{headline}
use Rattle.vm_tool.proofs.tool.openvm.Goals as goal

pub returns-clause-headline : goal.returns-clause-headline
returns-clause-headline g c = headline _ _ _ _ _ c.parse_words.ensures c.perform.ensures
