use Rattle.chip_sha_main.specs.lemmas.ShaSound.{blocks_compressed}
use Rattle.chip_sha_main.proofs.laws.blocks_are_compressed.Goals as goal

pub returns : goal.returns
returns c = blocks_compressed
