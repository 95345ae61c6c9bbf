use Rattle.std.proofs.Common.{◌∙◌, arith}
use Rattle.std.proofs.lemmas.Grind.{get_or_default_zero}
use Rattle.chip_sha_round.proofs.Parts.{first_by_parts}
use Rattle.chip_sha_round.proofs.events.first_broken.Goals as goal

pub returns : goal.returns
returns c =
    rw (c.first.ensures, c.flags_broken.ensures, c.bits_broken.ensures)
    (first_by_parts c.args.row.now c.index-row-0.result c.requires (c.index-row-0.is ∙ get_or_default_zero c.args.row.now 0 c.index-row-0.result (omega (arith, c.requires))))
