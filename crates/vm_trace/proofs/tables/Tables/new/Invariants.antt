use Rattle.std.proofs.Common.{◌≡◌, take}
use Rattle.vm_trace.specs.Contents.{empty}
use Rattle.vm_trace.proofs.tables.Tables.new.Given as goal

-- a table for each width so far
abbrev pub invariant-loop-width : goal.invariant-loop-width
invariant-loop-width l = l.tables.items ≡ (empty (take l.width-index l.widths)).tables
