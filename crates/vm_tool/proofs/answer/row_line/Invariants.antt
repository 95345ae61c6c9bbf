use Rattle.std.proofs.Common.{◌≡◌, ◌++◌, take}
use Rattle.std.specs.Prelude.{string_bytes, flat_map}
use Rattle.std.specs.Int.{w32, to_be_bytes}
use Rattle.hex.specs.Hex.{encode_lower}
use Rattle.vm_tool.specs.Listing.{spaced}
use Rattle.vm_tool.proofs.answer.row_line.Given as goal

abbrev pub invariant-loop-number : goal.invariant-loop-number
invariant-loop-number l = string_bytes l.line ≡ encode_lower (to_be_bytes w32 l.row.pc) ++ flat_map spaced (take l.number-index l.number-items)
