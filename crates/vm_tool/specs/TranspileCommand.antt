-- The answer to `transpile`.
use Rattle.std.specs.Prelude.{◌≡◌, List, ℕ}
use Rattle.elf_image.specs.Loaded.{Loaded}
use Rattle.vm_transpile.specs.Program.{program_of}
use Rattle.vm_tool.specs.declared.answer.Answer.{Answer}
use Rattle.vm_tool.specs.declared.answer.Answer.TheVariants as answer
use Rattle.vm_tool.specs.Files.{GivesImage}

-- the answer to `transpile` over an image: the rows of its program
abbrev pub Lists : Loaded → Answer → Type 0
Lists loaded found = found ≡ answer.Listing (program_of loaded)

-- the file has an image, and its rows are answered
pub record TranspileSucceeds (elf : List ℕ) (found : Answer) : Type 0 where
  pub loaded : Loaded
  pub image : GivesImage elf loaded
  pub lists : Lists loaded found
