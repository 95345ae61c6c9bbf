use Rattle.std.proofs.Common.{sym, ◌∙◌}
use Rattle.gadget_bits.proofs.Known.{sums_known}
use Rattle.gadget_bits.proofs.bits.half_sums.Goals as goal

pub returns-in-Some : goal.returns-in-Some
returns-in-Some c = c.halves_of.ensures ∙ sums_known c.args.bits.now c.in-Some.word (sym c.requires.known ∙ c.in-Some.is)
