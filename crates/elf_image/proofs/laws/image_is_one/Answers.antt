use Rattle.elf_image.proofs.Images.{image_is_one}
use Rattle.elf_image.proofs.laws.image_is_one.Goals as goal

pub returns : goal.returns
returns c = image_is_one
