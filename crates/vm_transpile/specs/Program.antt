-- The program of an image.
use Rattle.std.specs.Prelude.{List, Option}
use Rattle.std.specs.List.{filter_map}
use Rattle.std.specs.Option.{option_map}
use Rattle.elf_image.specs.declared.TextWord.{TextWord}
use Rattle.elf_image.specs.Loaded.{Loaded, text_of}
use Rattle.rv_decode.specs.Listing.{decode_of}
use Rattle.vm_isa.specs.declared.instr.VmInstr.{VmInstr}
use Rattle.vm_transpile.specs.Rows.{row_of}

-- the row of a text word, if it decodes
abbrev pub row_at : TextWord → Option VmInstr
row_at text = option_map (row_of text.pc) (decode_of text.word)

-- the rows of the text words in rising order of address
abbrev pub program_of : Loaded → List VmInstr
program_of loaded = filter_map row_at (text_of loaded)
