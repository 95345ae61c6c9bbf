use Rattle.elf_image.proofs.Images.{refusal_is_one}
use Rattle.elf_image.proofs.laws.refusal_is_one.Goals as goal

pub returns : goal.returns
returns c = refusal_is_one
