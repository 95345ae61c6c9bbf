use Rattle.std.proofs.Common.{slice_index}
use Rattle.chip_sha_round.specs.Round.{round_row}
use Rattle.chip_sha_round.specs.lemmas.RoundTable.{round_no_hint}
use Rattle.chip_sha_round.proofs.chip.ShaRoundAtChip.hint.Goals as goal

pub returns : goal.returns
returns g c = λ is holds. round_no_hint (round_row (slice_index c.args.row.now))
