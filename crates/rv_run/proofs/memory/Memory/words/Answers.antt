use Rattle.std.proofs.Common.{◌+◌, ◌*◌, arith}
use Rattle.std.proofs.lemmas.List.FromFn.{fill_by_all}
use Rattle.rv_run.specs.Memory.{number_at}
use Rattle.rv_run.specs.Pages.{memory_of}
use Rattle.rv_run.specs.Step.{words_at}
use Rattle.rv_run.proofs.memory.Memory.words.Goals as goal

pub returns : goal.returns
unfolding words_at
returns c =
    fill_by_all (λ i. number_at (memory_of c.args.self.now) (c.args.address + 4 * i) 4) c.loop-i.word-items 8 0 (omega arith)
    (λ k h. c.loop-i.invariant k (omega arith))
