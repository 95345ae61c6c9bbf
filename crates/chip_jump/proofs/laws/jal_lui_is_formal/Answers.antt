use Rattle.chip_jump.specs.lemmas.Cores.{jal_lui_formal}
use Rattle.chip_jump.proofs.laws.jal_lui_is_formal.Goals as goal

pub returns : goal.returns
returns c = jal_lui_formal
