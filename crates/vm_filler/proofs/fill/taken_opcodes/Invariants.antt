use Rattle.std.proofs.Common.{◌≡◌, length}
use Rattle.vm_filler.specs.Filling.{KeepsOut}
use Rattle.vm_filler.proofs.fill.taken_opcodes.Given as goal

-- the opcodes so far
abbrev pub invariant-loop-op : goal.invariant-loop-op
invariant-loop-op g l = record {
  size : length l.takes.items ≡ l.op;
  out : KeepsOut (g.E.Extension.system l.ext) l.table l.takes.items;
}
