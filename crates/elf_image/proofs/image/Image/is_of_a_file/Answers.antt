use Rattle.elf_image.proofs.image.Image.is_of_a_file.Goals as goal

pub returns : goal.returns
returns c = record { bytes = c.self.inside.file.items; are_bytes = c.are_bytes.ensures; has_image = rw (← c.self.view_is) c.self.invariant.1 }
