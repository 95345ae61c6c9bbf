use Rattle.std.proofs.Common.{◌≡◌, take}
use Rattle.std.specs.Prelude.{string_bytes}
use Rattle.vm_tool.specs.Listing.{listing_of}
use Rattle.vm_tool.proofs.answer.listing.Given as goal

abbrev pub invariant-loop-place : goal.invariant-loop-place
invariant-loop-place l = string_bytes l.text ≡ listing_of (take l.place l.program)
