use Rattle.std.proofs.Common.{ℕ, ◌+◌, ◌*◌, List, get_or, ap, ◌∙◌, arith}
use Rattle.std.proofs.lemmas.List.FromFn.{fill_by_all}
use Rattle.rv_run.specs.Pages.{memory_of}
use Rattle.rv_run.specs.Step.{bytes_at}
use Rattle.rv_run.proofs.Words.{begins_four, four_long}
use Rattle.rv_run.proofs.memory.Memory.block.Goals as goal

pub loop-i-preserved : goal.loop-i-preserved
loop-i-preserved c =
    let memory : ℕ → ℕ = memory_of c.args.self.now in
    let start : ℕ = c.args.address in
    let at : ℕ = 4 * c.loop-i.i in
    let bytes = c.loop-i.bytes in
    let four = c.four-four in
    let invariant = c.loop-i.invariant in (
      four_long bytes at _ _ _ _ ∙ invariant.0,
      begins_four bytes (λ k. memory (start + k)) at _ _ _ _ _ (omega arith) (omega (arith, invariant.0, c.loop-i-test.true))
          (ap (λ (xs : List ℕ). get_or xs 0 0) four.ensures)
          (ap (λ (xs : List ℕ). get_or xs 1 0) four.ensures ∙ ap memory (omega arith))
          (ap (λ (xs : List ℕ). get_or xs 2 0) four.ensures ∙ ap memory (omega arith))
          (ap (λ (xs : List ℕ). get_or xs 3 0) four.ensures ∙ ap memory (omega arith)) invariant.1,
    )

pub returns : goal.returns
unfolding bytes_at
returns c =
    fill_by_all (λ i. memory_of c.args.self.now (c.args.address + i)) c.loop-i.bytes 64 0 c.loop-i.invariant.0
    (λ k h. c.loop-i.invariant.1 k (omega (arith, h)))
