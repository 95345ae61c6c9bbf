use Rattle.chip_jump.specs.lemmas.Cores.{auipc_formal}
use Rattle.chip_jump.proofs.laws.auipc_is_formal.Goals as goal

pub returns : goal.returns
returns c = auipc_formal
