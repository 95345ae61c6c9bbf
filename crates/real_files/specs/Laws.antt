-- What is accepted. Each law is the contract of a function in src/laws.rt.
use Rattle.std.specs.Prelude.{ℕ, List}
use Rattle.elf_image.specs.Image.{HasImage}
use Rattle.elf_image.specs.Loaded.{Loaded}
use Rattle.vm_isa.specs.Blocks.{Terminates}
use Rattle.vm_transpile.specs.Program.{program_of}
use Rattle.acceptance.specs.Accepts.{Accepts}
use Rattle.real_files.specs.TwoSums.{BeginsWithSums, two_tables, two_sums_file}

-- The file of two segments with a sum each, over the page of registers, is accepted, where the image begins with
-- these sums before a TERMINATE: what is asked can be met by segments that follow one another and access memory.
abbrev pub TwoSumsAreAccepted : Type 0
TwoSumsAreAccepted = (elf : List ℕ) (image : Loaded) (first second code : ℕ) → HasImage elf image → BeginsWithSums image first second → Terminates (program_of image) 4104 code
    → Accepts two_tables image (two_sums_file image first second code)
