use Rattle.std.proofs.Common.{◌≡◌, take}
use Rattle.std.specs.List.{filter_map}
use Rattle.elf_image.specs.Loaded.{text_of}
use Rattle.vm_transpile.specs.Program.{row_at}
use Rattle.vm_transpile.proofs.text.transpile.Given as goal

-- the rows of the words so far
abbrev pub invariant-loop-place : goal.invariant-loop-place
invariant-loop-place l = l.rows.items ≡ filter_map row_at (take l.place (text_of l.image))
