use Rattle.std.proofs.Common.{refl}
use Rattle.air_core.proofs.FirstLemmas.{flags_split}
use Rattle.air_core.proofs.flags.flags_broken.Goals as goal

pub returns : goal.returns
returns c = rw (c.first.ensures, c.bits_broken-each.ensures, c.first_nonzero-whole.ensures, c.bit.ensures, c.flag_sum.ensures, flags_split c.args.flags.now) refl
