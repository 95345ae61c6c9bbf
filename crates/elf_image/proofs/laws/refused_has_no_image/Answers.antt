use Rattle.elf_image.proofs.Images.{refused_has_no_image}
use Rattle.elf_image.proofs.laws.refused_has_no_image.Goals as goal

pub returns : goal.returns
returns c = refused_has_no_image
