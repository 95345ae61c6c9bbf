use Rattle.vm_config.proofs.FullLines.{full_is}
use Rattle.vm_config.proofs.laws.full_is_the_tables.Goals as goal

pub returns : goal.returns
returns c = full_is
