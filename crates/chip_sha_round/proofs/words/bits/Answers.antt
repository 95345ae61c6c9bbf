use Rattle.std.proofs.Common.{◌≡◌, ◌+◌, ◌-◌, sym, ap, ◌∙◌, arith, take, drop}
use Rattle.air_core.specs.lemmas.Cells.{cells_take}
use Rattle.chip_sha_round.proofs.words.bits.Goals as goal

pub returns-clause-are : goal.returns-clause-are
returns-clause-are c =
    let same : c.args.at + 32 - c.args.at ≡ 32 = omega arith in
    ap (λ n. take n (drop c.args.at c.args.row.now)) same ∙ sym (cells_take c.args.row.now c.args.at 32 c.requires)
