use Rattle.std.proofs.Common.{◌≡◌, take}
use Rattle.vm_trace.specs.Contents.{Contents}
use Rattle.vm_filler.specs.Filling.{with_entries}
use Rattle.vm_filler.specs.Uses.{entries_of}
use Rattle.vm_filler.proofs.entries.push_part.Given as goal

-- the entries of the places so far stand behind the list
abbrev pub invariant-loop-place : goal.invariant-loop-place
invariant-loop-place l = (before : Contents) → l.fn.tables ≡ with_entries before l.list (entries_of (take l.start l.counts)) → l.tables ≡ with_entries before l.list (entries_of (take l.place l.counts))
