use Rattle.std.proofs.Common.{◌≡◌, ◌-◌, ◌≤◌, length, take}
use Rattle.vm_host.specs.declared.Slot.TheVariants.{Second}
use Rattle.vm_host.specs.ReadUpTo.{Took}
use Rattle.table_format.proofs.head.fill.Given as goal

-- what was taken stands in the buffer's front
abbrev pub invariant-pieces : goal.invariant-pieces
invariant-pieces g l = record {
  took : Took Second (g.H.Host.state l.initial.host) (g.H.Host.state l.host) (take l.filled l.into);
  within : l.filled ≤ length l.into;
  long : length l.into ≡ length l.fn.into;
}

abbrev pub decreases-pieces : goal.decreases-pieces
decreases-pieces g l = length l.into - l.filled
