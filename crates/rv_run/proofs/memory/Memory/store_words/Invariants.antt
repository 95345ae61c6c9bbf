use Rattle.std.proofs.Common.{◌≡◌, ◌+◌, ◌*◌, drop}
use Rattle.rv_run.specs.Memory.{with_words}
use Rattle.rv_run.specs.Pages.{memory_of, IsOwned}
use Rattle.rv_run.proofs.memory.Memory.store_words.Given as goal

abbrev pub invariant-loop-i : goal.invariant-loop-i
invariant-loop-i l = record {
  rest : with_words (memory_of l.self) (l.address + 4 * l.i) (drop l.i l.words) ≡ with_words (memory_of l.fn.self) l.address l.words;
  first : IsOwned l.self l.address;
  last : IsOwned l.self (l.address + 28);
  code : l.self.code ≡ l.fn.self.code;
}
