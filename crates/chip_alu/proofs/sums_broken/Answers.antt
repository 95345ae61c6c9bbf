use Rattle.std.proofs.Common.{refl}
use Rattle.chip_alu.proofs.Parts.{first_of_sums}
use Rattle.chip_alu.proofs.sums_broken.Goals as goal

pub returns : goal.returns
returns c =
    rw (
      c.first.ensures,
      c.first_broken-sums.ensures,
      c.first_broken-differences.ensures,
      c.array-new.ensures,
      c.array-left.ensures,
      c.array-right.ensures,
      first_of_sums c.args.from c.args.add c.args.sub c.args.a c.args.b c.args.c,
    ) refl
