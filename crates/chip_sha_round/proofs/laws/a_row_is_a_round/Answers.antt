use Rattle.std.proofs.Common.{slice_index}
use Rattle.chip_sha_round.specs.Round.{round_row}
use Rattle.chip_sha_round.specs.lemmas.RoundLaw.{round_law}
use Rattle.chip_sha_round.specs.lemmas.RoundReads.{round_reads}
use Rattle.chip_sha_round.proofs.laws.a_row_is_a_round.Goals as goal

pub returns : goal.returns
returns c = λ row state words below zeros good some next stage.
    let r = round_row (slice_index row) in
    let reads = round_reads row below zeros good some in
    round_law r state words r.round reads.bits reads.sums reads.constant next stage
