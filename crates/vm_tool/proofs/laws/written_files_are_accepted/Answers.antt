use Rattle.std.proofs.Common.{subst}
use Rattle.air_core.specs.System.{System}
use Rattle.acceptance.specs.Laws.{AcceptedFilesSpellOneList}
use Rattle.vm_tool.proofs.ProveLaws.{written_files_are_accepted}
use Rattle.vm_tool.proofs.laws.written_files_are_accepted.Goals as goal

pub returns : goal.returns
returns c = written_files_are_accepted (subst (λ (x : System). AcceptedFilesSpellOneList x) c.program_tables-tables.ensures (c.accepted_files_spell_hints.ensures.one c.program_tables-tables.result))
