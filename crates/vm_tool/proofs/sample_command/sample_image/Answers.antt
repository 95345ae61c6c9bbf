use Rattle.std.proofs.Common.{ap, ◌∙◌}
use Rattle.elf_image.proofs.Images.{image_is_one}
use Rattle.vm_vectors.specs.ElfFile.{text_image}
use Rattle.vm_vectors.specs.Sample.{sample_base}
use Rattle.vm_tool.proofs.sample_command.sample_image.Goals as goal

pub returns-in-Ok-clause-image : goal.returns-in-Ok-clause-image
returns-in-Ok-clause-image c =
    image_is_one c.in_ok-file.file.items _ _ (rw c.deref-2.ensures.value at c.in-Ok.ensures.image) c.in_ok-file.ensures.image
    ∙ ap (text_image sample_base) (c.deref.ensures.value ∙ c.in_ok-words.ensures.text)
