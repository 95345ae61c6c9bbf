use Rattle.std.proofs.lemmas.Bool.{eqb-true}
use Rattle.gadget_bits.proofs.RecordWords.{accesses_26, time_low}
use Rattle.chip_sha_round.proofs.chip.ShaRoundAtChip.fill.Goals as goal

pub fill_round-requires-clause-long : goal.fill_round-requires-clause-long
fill_round-requires-clause-long g c = accesses_26 g.row.HI c.args.done.now c.requires.fillable (eqb-true c.args.done.now.instr.op 40 c.requires.taken)

pub fill_round-requires-clause-time_low : goal.fill_round-requires-clause-time_low
fill_round-requires-clause-time_low g c = time_low g.row.HI c.args.done.now c.requires.fillable c.args.self.now.range.1 (eqb-true c.args.done.now.instr.op 40 c.requires.taken)
