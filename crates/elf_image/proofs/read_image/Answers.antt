use Rattle.std.proofs.Common.{◌+◌, ◌*◌, length, inl, inr, arith, rules}
use Rattle.std.proofs.lemmas.Bool.{cases_lt}
use Rattle.elf_image.specs.declared.ImageError.TheVariants.{HeaderTable}
use Rattle.elf_image.specs.Elf.{e_phnum, e_phoff}
use Rattle.elf_image.specs.Image.{NoneBefore}
use Rattle.elf_image.proofs.read_image.Goals as goal

pub read_loads-requires-clause-table : goal.read_loads-requires-clause-table
read_loads-requires-clause-table c =
    let bytes = c.args.bytes.now in
    let none : NoneBefore 9 bytes = search rules in
    elim (cases_lt (length bytes) (e_phoff bytes + 32 * e_phnum bytes)) [ inl past ↦ absurd (none HeaderTable (omega arith) (inr past)) | inr within ↦ within ]
