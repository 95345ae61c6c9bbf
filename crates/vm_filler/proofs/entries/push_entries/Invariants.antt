use Rattle.std.proofs.Common.{◌≡◌, ◌≤◌, ◌-◌, length, take}
use Rattle.vm_filler.specs.Filling.{with_entries}
use Rattle.vm_filler.specs.Uses.{entries_of}
use Rattle.vm_filler.proofs.entries.push_entries.Given as goal

abbrev pub decreases-parts : goal.decreases-parts
decreases-parts l = length l.counts - l.start

-- the entries of the places so far were put
abbrev pub invariant-parts : goal.invariant-parts
invariant-parts l = record {
  within : l.start ≤ length l.counts;
  are : l.tables ≡ with_entries l.fn.tables l.list (entries_of (take l.start l.counts));
}
