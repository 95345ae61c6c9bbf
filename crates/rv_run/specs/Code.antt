-- The instructions that a program's text decodes to.
use Rattle.std.specs.Prelude.{ℕ, Option, None, Some, IfSome, ⊤}
use Rattle.std.specs.Option.{option_map}
use Rattle.elf_image.specs.declared.TextWord.{TextWord}
use Rattle.rv_decode.specs.declared.instr.Instr.{Instr}
use Rattle.rv_decode.specs.Listing.{decode_of}
use Rattle.rv_decode.specs.Ranges.{HasFieldsInRange}

abbrev pub decoded : TextWord → Option Instr
decoded text = decode_of text.word

-- what a text word decodes to, if one is there
abbrev pub fetched : Option ℕ → Option (Option Instr)
fetched word = option_map decode_of word

-- an instruction that was fetched has its fields in their ranges
abbrev pub HasRanges : Option (Option Instr) → Type 0
HasRanges None = ⊤
HasRanges (Some found) = IfSome found HasFieldsInRange
