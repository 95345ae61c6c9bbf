use Rattle.vm_tool.proofs.LawLemmas.{refused_elf_decides}
use Rattle.vm_tool.proofs.laws.refused_elf_decides.Goals as goal

pub returns : goal.returns
returns c = refused_elf_decides
