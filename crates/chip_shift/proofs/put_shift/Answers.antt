use Rattle.std.proofs.Common.{length, drop, sym, ap, ◌∙◌}
use Rattle.std.specs.Prelude.{nat_eq}
use Rattle.std.proofs.lemmas.List.{take_at}
use Rattle.gadget_shift.specs.Shift.{shift_filled}
use Rattle.chip_shift.proofs.put_shift.Goals as goal

pub returns-clause-so_far : goal.returns-clause-so_far
returns-clause-so_far c =
    rw (c.fill_shift.ensures.is) (take_at (shift_filled (nat_eq c.args.place 0) c.args.amount c.args.left) (drop 16 c.args.own.now) 16 (ap length (sym c.fill_shift.ensures.is) ∙ c.fill_shift.ensures.long))
