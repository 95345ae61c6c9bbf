use Rattle.std.proofs.Common.{◌≡◌, ℕ, None, length}
use Rattle.std.specs.Prelude.{slice_index_or}
use Rattle.rv_run.proofs.memory.Memory.new.Given as goal

abbrev pub invariant-loop : goal.invariant-loop
invariant-loop l = record {
  none : (i : ℕ) → slice_index_or l.pages.items i None ≡ None;
  long : length l.pages.items ≡ l.counter;
}
