use Rattle.std.proofs.Common.{◌≡◌, ◌+◌, ◌*◌, ◌^◌, ◌≤◌, drop}
use Rattle.vm_checker.specs.FirstReason.{slots_of}
use Rattle.vm_checker.proofs.heights.slot_sum.Given as goal

-- the sum so far, and what is left
abbrev pub invariant-loop-table : goal.invariant-loop-table
invariant-loop-table g l = record {
  whole : l.sum + slots_of (drop l.table ((g.E.Extension.system l.ext).parts)) (drop l.table l.codes) ≡ slots_of ((g.E.Extension.system l.ext).parts) l.codes;
  small : l.sum ≤ l.table * 2 ^ 56;
}
