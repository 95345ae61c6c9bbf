use Rattle.chip_jump.specs.lemmas.Cores.{jalr_formal}
use Rattle.chip_jump.proofs.laws.jalr_is_formal.Goals as goal

pub returns : goal.returns
returns c = jalr_formal
