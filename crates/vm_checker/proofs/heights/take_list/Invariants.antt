use Rattle.std.proofs.Common.{◌≡◌, ◌≤◌, length}
use Rattle.std.specs.List.{AllByRecursion}
use Rattle.vm_checker.specs.Items.{code_list}
use Rattle.table_format.proofs.Drawn.{Drew}
use Rattle.vm_checker.proofs.heights.take_list.Given as goal

-- the codes so far
abbrev pub invariant-loop-table : goal.invariant-loop-table
invariant-loop-table g l = record {
  drew : Drew (code_list l.table l.greatest l.segment) l.fn.stream l.stream (g.H.Host.state l.fn.host) (g.H.Host.state l.host) l.codes.items;
  number : length l.codes.items ≡ l.table;
  low : AllByRecursion (λ code. code ≤ 25) l.codes.items;
}
