-- The tables of the program own the rows of every program.
use Rattle.std.proofs.Common.{◌≡◌, ℕ, true, arith}
use Rattle.elf_image.specs.Image.{IsOfAFile}
use Rattle.elf_image.specs.Loaded.{Loaded}
use Rattle.vm_transpile.specs.Program.{program_of}
use Rattle.std.proofs.lemmas.Bool.Decides.{nat_tests}
use Rattle.vm_config.proofs.FullLines.{full_is}
use Rattle.vm_prover.specs.Progress.{OwnsRows}
use Rattle.vm_prover.proofs.StepLemmas.{all_opcodes_own_rows}
use Rattle.vm_tool.specs.Tables.{program_tables}

pub tables_own : (image : Loaded) → IsOfAFile image → OwnsRows program_tables (program_of image)
tables_own image file = all_opcodes_own_rows program_tables image file (λ op means. ((full_is 8).owns op).1 (grind (arith, nat_tests, means)))
