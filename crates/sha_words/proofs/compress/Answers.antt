use Rattle.std.proofs.Common.{List, ℕ, sym, ap, ◌∙◌, lit≤}
use Rattle.sha_words.specs.Sha256.{rounds, sums_of}
use Rattle.sha_words.proofs.RoundLemmas.{compress-rounds}
use Rattle.sha_words.proofs.compress.Goals as goal

pub returns : goal.returns
returns c =
    let state = c.args.state in
    c.sums.ensures
    ∙ ap (sums_of state) (c.rounds.ensures ∙ ap (λ (words : List ℕ). rounds state words 64) c.schedule.ensures)
    ∙ sym (compress-rounds state c.args.block.now 80 (lit≤ tt))
